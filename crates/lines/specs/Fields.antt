-- The fields of a line that is left, if one is (private contracts cite it).
-- Assumes nothing.
use Rattle.std.specs.Prelude.{ℕ, List, [], Option, Some, None}
use Rattle.std.specs.Borrow.{Bor}
use Rattle.lines.specs.Text.{space, split}

abbrev pub fields : Option (Bor (List ℕ)) → List (List ℕ)
fields None = []
fields (Some line) = split space line.now
