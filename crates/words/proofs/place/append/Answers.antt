-- `append` meets its contract: a shift and an `or` are the product and the sum of the definition.
-- Assumes nothing.
use Rattle.std.proofs.Common.{◌≡◌, ap, ◌∙◌}
use Rattle.words.specs.Width.{width_bits}
use Rattle.words.proofs.ElementLaws.{append_lsb, append_fits}
use Rattle.words.proofs.place.append.Goals as goal

pub overflow_cast-result-in-Msb-2 : goal.overflow_cast-result-in-Msb-2
overflow_cast-result-in-Msb-2 g c =
    let a = c.args in
    let r = c.requires in
    let bits : c.bits-bits.result ≡ width_bits g.T.Word.width = c.bits-bits.ensures.0 ∙ ap width_bits c.width.ensures in
    record { fits = append_fits _ _ a.n a.x a.w bits r.0 r.1 r.2 }

pub returns-in-Lsb : goal.returns-in-Lsb
returns-in-Lsb g c =
    let a = c.args in
    let r = c.requires in
    let bits : c.bits-bits.result ≡ width_bits g.T.Word.width = c.bits-bits.ensures.0 ∙ ap width_bits c.width.ensures in
    rw c.in-Lsb.is (append_lsb _ _ a.n a.x a.w bits r.0 r.1 r.2)
