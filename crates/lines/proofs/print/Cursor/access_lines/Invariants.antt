-- The accesses that are left.
-- Assumes nothing.
use Rattle.std.proofs.Common.{length}
use Rattle.lines.specs.Listing.{access_lines}
use Rattle.lines.proofs.WrittenLaws.{PutsLeft}
use Rattle.lines.proofs.print.Cursor.access_lines.Given as goal

abbrev pub invariant-loop-register : goal.invariant-loop-register
invariant-loop-register l = PutsLeft l.fn.self l.self (access_lines l.log) (access_lines l.left)

abbrev pub decreases-loop-register : goal.decreases-loop-register
decreases-loop-register l = length l.left
