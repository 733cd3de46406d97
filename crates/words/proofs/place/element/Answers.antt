-- `element` meets its contract: a shift is the quotient at the element's place, of which the element is the lowest bits.
-- Assumes nothing.
use Rattle.std.proofs.Common.{◌≡◌, ℕ, ◌*◌, ◌/◌, ◌%◌, ◌^◌, ◌-◌, ap, ◌∙◌, sym}
use Rattle.words.specs.declared.order.BitOrder.TheVariants.{Msb, Lsb}
use Rattle.words.specs.Width.{width_bits}
use Rattle.words.proofs.WordLaws.{unpack_at}
use Rattle.words.proofs.place.element.Goals as goal

pub returns-in-Msb : goal.returns-in-Msb
returns-in-Msb g c =
    let a = c.args in
    let k = width_bits g.T.Word.width in
    let bits : c.bits-bits.result ≡ k = c.bits-bits.ensures.0 ∙ ap width_bits c.width.ensures in
    c.from_word.ensures
    ∙ rw c.in-Msb.is (ap (λ (b : ℕ). a.w / 2 ^ (b * (a.n - 1 - a.i)) % 2 ^ k) bits ∙ sym (unpack_at Msb k a.n a.w a.i c.requires.1))

pub returns-in-Lsb : goal.returns-in-Lsb
returns-in-Lsb g c =
    let a = c.args in
    let k = width_bits g.T.Word.width in
    let bits : c.bits-bits.result ≡ k = c.bits-bits.ensures.0 ∙ ap width_bits c.width.ensures in
    c.from_word-in-Lsb.ensures
    ∙ rw c.in-Lsb.is (ap (λ (b : ℕ). a.w / 2 ^ (b * a.i) % 2 ^ k) bits ∙ sym (unpack_at Lsb k a.n a.w a.i c.requires.1))
