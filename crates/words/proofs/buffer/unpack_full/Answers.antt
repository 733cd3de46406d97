-- `unpack_full` meets its contract. The loop's invariant: the elements of the words so far are laid.
-- Assumes nothing.
use Rattle.std.proofs.Common.{◌≡◌, ◌*◌, ◌+◌, ◌-◌, ℕ, take, refl, ap, ◌∙◌, arith}
use Rattle.std.proofs.lemmas.List.{length-take-le}
use Rattle.words.specs.Width.{width_bits}
use Rattle.words.specs.Word.{laid, per_word, unpack}
use Rattle.words.proofs.BufferLaws.{per_width, unpack_step, within_words}
use Rattle.words.proofs.Numbers.{numbers_put, numbers_part}
use Rattle.words.proofs.buffer.unpack_full.Goals as goal

pub loop-i-preserved : goal.loop-i-preserved
loop-i-preserved g c =
    let t = g.T.Word in
    let k = width_bits t.width in
    let s = c.spread in
    let l = c.loop-i in
    let a = c.args in
    let p = c.per_word-per_word.result in
    let per = per_width c.per_word-per_word.ensures c.width.ensures in
    let all = length-take-le a.n a.words.now c.requires.0 in
    let fits = within_words (per_word k) l.i a.n (omega arith) in
    let part = p * l.i + p - p * l.i in
    let at : p * l.i ≡ per_word k * l.i = ap (λ (q : ℕ). q * l.i) per in
    let spread = s.ensures ∙ ap (laid (unpack a.order k p _)) (numbers_part t.laws (p * l.i) part l.out) in (
      omega arith,
      numbers_put t.laws (p * l.i) part l.out s.new.out
          ∙ unpack_step a.order k (per_word k * a.n) l.i (p * l.i) part p _ (take a.n a.words.now) (t.numbers a.out.now) (t.numbers l.out)
          (t.numbers s.new.out) (omega arith) (omega (arith, fits)) at (omega (arith, fits, per)) refl l.invariant.1 spread (λ h. omega arith),
    )
