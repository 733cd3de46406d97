-- Each turn leaves less room in the list.
-- Assumes nothing.
use Rattle.std.proofs.Common.{◌-◌}
use Rattle.lpspi.proofs.line.numbers.Given as goal

abbrev pub decreases-loop-number : goal.decreases-loop-number
decreases-loop-number g l = g.row.N - l.list.len
