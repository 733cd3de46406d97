-- A shift and a mask are the quotient and the remainder of the definition.
-- Assumes nothing.
use Rattle.std.proofs.Common.{◌/◌, ◌^◌}
use Rattle.manual.proofs.Shifts.{low_bits}
use Rattle.manual.proofs.bits.Bits.get.Goals as goal

pub returns : goal.returns
returns c =
    let b = c.self.inside in
    rw (← c.self.view_is) (low_bits (c.args.word / 2 ^ b.position) b.width c.self.invariant.1)
