-- `recovery_move` meets its contract: a place has its move, and past the others there is the last.
-- Assumes nothing.
use Rattle.std.proofs.Common.{arith}
use Rattle.sequences.proofs.recovery.recovery_move.Goals as goal

pub returns : goal.returns
returns c = rw c.unwrap_or.ensures (rw c.copied.ensures (c.get.ensures.lookup.4 (omega arith) _))
