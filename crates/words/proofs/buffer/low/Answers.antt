-- `low` meets its contract: a mask is the remainder of the definition, and a whole word needs none.
-- Assumes nothing.
use native.Mathlib.Omega.{arith}
use Rattle.manual.proofs.Shifts.{low_bits}
use Rattle.words.proofs.buffer.low.Goals as goal

pub returns : goal.returns
returns c = low_bits c.args.word c.args.n (omega arith)
