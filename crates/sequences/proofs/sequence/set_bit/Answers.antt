-- `set_bit` meets its contract: a field of one bit.
-- Assumes nothing.
use native.Mathlib.Omega.{arith}
use Rattle.manual.proofs.Shifts.{set_bits_eq}
use Rattle.sequences.proofs.sequence.set_bit.Goals as goal

pub returns : goal.returns
returns c =
    let a = c.args in
    set_bits_eq a.word a.position 1 a.bit c.ranges.word.fits (omega arith) (omega arith) (omega arith)
