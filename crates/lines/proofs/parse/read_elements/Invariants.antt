-- Those that were read, with the fields that are left, are the line's.
-- Assumes nothing.
use Rattle.std.proofs.Common.{◌≤◌, ◌≡◌, length, take}
use Rattle.words.specs.Width.{width_bits}
use Rattle.lines.specs.Fields.{fields}
use Rattle.lines.specs.Grammar.{line_elements}
use Rattle.lines.proofs.ElementLaws.{togo}
use Rattle.lines.proofs.parse.read_elements.Given as goal

abbrev pub invariant-loop-rest : goal.invariant-loop-rest
invariant-loop-rest g l =
    (l.n ≤ g.row.N)
    × (length l.out ≡ g.row.N)
    × (togo (width_bits g.T.Word.width) g.row.N (g.T.Word.numbers (take l.n l.out)) (fields l.rest)
    ≡ line_elements (width_bits g.T.Word.width) g.row.N l.line)

abbrev pub decreases-loop-rest : goal.decreases-loop-rest
decreases-loop-rest g l = length (fields l.rest)
