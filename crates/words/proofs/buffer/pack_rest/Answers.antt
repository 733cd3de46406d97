-- `pack_rest` meets its contract. The loop's invariant: where the words before `from` were laid, those so far are.
-- Assumes nothing.
use Rattle.std.proofs.Common.{◌≡◌, ◌*◌, ◌-◌, ℕ, min, length, drop, ap, ◌∙◌, arith}
use Rattle.words.specs.Width.{width_bits}
use Rattle.words.specs.Word.{pack}
use Rattle.words.specs.Buffer.{dummy, filled, tabulate, word_at}
use Rattle.words.proofs.BufferLaws.{per_width, store_step, length_laid}
use Rattle.words.proofs.buffer.pack_rest.Goals as goal

pub loop-i-preserved : goal.loop-i-preserved
loop-i-preserved g c =
    let t = g.T.Word in
    let k = width_bits t.width in
    let l = c.loop-i in
    let a = c.args in
    let ns = t.numbers a.xs.now in
    let f = word_at a.order k a.total ns in
    let per = per_width c.per_word-per_word.ensures c.width.ensures in
    let word : c.filled_word.result ≡ f l.i =
    c.filled_word.ensures
    ∙ ap (λ (n : ℕ). pack a.order k (filled (dummy k) n (drop (c.per_word-per_word.result * l.i) ns))) c.min.ensures
    ∙ ap (λ (p : ℕ). pack a.order k (filled (dummy k) (min p (a.total - p * l.i)) (drop (p * l.i) ns))) per in (
      omega arith,
      λ ws e.
          store_step l.i c.filled_word.result f ws l.words
          (omega (arith, ap length e ∙ length_laid (tabulate a.from f) ws)) word (l.invariant.1 ws e),
    )
