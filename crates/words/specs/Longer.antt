-- The longer buffer, handed back as that buffer itself, the write buffer on a tie.
-- Assumes nothing.
use Rattle.std.specs.Prelude.{cond, List, ltb, length}
use Rattle.std.specs.Borrow.{Bor}

-- a reference, with what it points at: equal references are the same buffer
unfoldable pub longer : {E : Type 0} → Bor (List E) → Bor (List E) → Bor (List E)
longer read write = cond (ltb (length write.now) (length read.now)) read write
