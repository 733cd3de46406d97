-- `pack_full` meets its contract. The loop's invariant: the words so far are laid, and the parts of the others are left.
-- Assumes nothing.
use Rattle.std.proofs.Common.{◌≡◌, ◌*◌, ℕ, length, refl, ap, sym, ◌∙◌, arith, rules}
use Rattle.std.specs.Iterator.Adapters.{enumerate_source, enumerate_count}
use Rattle.std.specs.Slice.Iter.{chunks_exact_rest, chunks_exact_size}
use native.Mathlib.Nat.{mul-zero}
use Rattle.words.specs.Width.{width_bits}
use Rattle.words.specs.Word.{laid, per_word, pack}
use Rattle.words.specs.Buffer.{tabulate, word_at}
use Rattle.words.proofs.BufferLaws.{per_width, store_step, holds_one, part_turn, part_end, word_whole, within_words, count_whole}
use Rattle.words.proofs.Numbers.{length_numbers, numbers_part}
use Rattle.words.proofs.buffer.pack_full.Goals as goal

pub loop-i-init : goal.loop-i-init
loop-i-init g c =
    let t = g.T.Word in
    let k = width_bits t.width in
    let it = c.into_iter-i-iterator.result in
    let per = per_width c.per_word-per_word.ensures c.width.ensures in
    let from : enumerate_source it ≡ c.chunks_exact.result = ap enumerate_source c.into_iter-i-iterator.ensures.into_iter_gives ∙ c.enumerate-i-items.ensures.source in
    let none : enumerate_count it ≡ 0 = ap enumerate_count c.into_iter-i-iterator.ensures.into_iter_gives ∙ c.enumerate-i-items.ensures.count in (
      search rules,
      tt,
      ap chunks_exact_size from ∙ c.chunks_exact.ensures.size ∙ per,
      ap chunks_exact_rest from ∙ c.chunks_exact.ensures.rest ∙ rw (none, mul-zero (per_word k), per) refl,
      rw none (omega arith),
      rw none refl,
    )

pub loop-i-preserved : goal.loop-i-preserved
loop-i-preserved g c =
    let t = g.T.Word in
    let k = width_bits t.width in
    let l = c.loop-i in
    let a = c.args in
    let ns = t.numbers a.xs.now in
    let s = c.in-Some.ensures.steps in
    let v = l.invariant in
    let i = enumerate_count l.i-iterator in
    let turn = part_turn (per_word k) i a.n a.xs.now _ _ (holds_one t.width) (omega arith) (s.0.1.1 ∙ v.2) (sym v.3 ∙ s.0.1.0) in
    let fits = within_words (per_word k) i a.n turn.0 in
    let word : c.whole_word.result ≡ word_at a.order k (per_word k * a.n) ns i =
    c.whole_word.ensures ∙ ap (λ xs. pack a.order k (t.numbers xs)) turn.1 ∙ ap (pack a.order k) (numbers_part t.laws _ _ a.xs.now)
    ∙ word_whole a.order k (per_word k * a.n) i (per_word k * i) ns refl (omega (arith, length_numbers t.laws a.xs.now)) fits in (
      search rules,
      tt,
      s.0.0 ∙ v.2,
      rw s.2 turn.2,
      rw s.2 (omega (arith, turn.0)),
      rw (s.2, s.1) (store_step i c.whole_word.result _ a.words.now l.words (omega (arith, turn.0)) word v.5),
    )

pub returns : goal.returns
returns g c =
    let t = g.T.Word in
    let k = width_bits t.width in
    let l = c.loop-i in
    let a = c.args in
    let s = c.in-None.ensures.steps in
    let v = l.invariant in
    let f = word_at a.order k (per_word k * a.n) (t.numbers a.xs.now) in
    let all = part_end (per_word k) _ a.n a.xs.now v.4 (omega arith) (omega (arith, s.0.1.0, ap length v.3, v.2)) in
    v.5 ∙ ap (λ (m : ℕ). laid (tabulate m f) a.words.now) (all ∙ sym (count_whole t.width a.n))
