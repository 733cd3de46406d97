-- With the digits that are left, the buffer is what it is to be.
-- Assumes nothing.
use Rattle.std.proofs.Common.{◌≡◌, length}
use Rattle.lines.specs.Text.{digits, written}
use Rattle.lines.proofs.print.Cursor.digits.Given as goal

abbrev pub invariant-loop-i : goal.invariant-loop-i
invariant-loop-i l =
    (l.self.out.ghost_name ≡ l.fn.self.out.ghost_name)
    × (l.self.at ≡ l.fn.self.at)
    × (length l.self.out.now ≡ length l.fn.self.out.now)
    × (written l.self.out.now l.self.at (digits l.base l.i l.rest) ≡ written l.fn.self.out.now l.self.at (digits l.base l.k l.n))
