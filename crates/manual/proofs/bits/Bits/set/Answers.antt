-- See `set_bits_eq`.
-- Assumes nothing.
use Rattle.std.proofs.Common.{arith}
use Rattle.manual.proofs.Shifts.{set_bits_eq}
use Rattle.manual.proofs.bits.Bits.set.Goals as goal

pub returns : goal.returns
returns c =
    let b = c.self.inside in
    let i = c.self.invariant in
    rw (← c.self.view_is)
    (set_bits_eq c.args.word b.position b.width c.args.value c.ranges.word.fits i.1 i.2 (omega (arith, i.0, i.2)))
