-- `unpack_words` meets its contract: the whole words, then the one that total or buffer end in, if it is there.
-- Assumes nothing.
use Rattle.std.proofs.Common.{ℕ, List, ◌*◌, ◌-◌, ◌+◌, ◌/◌, min, length, refl, ap, ◌∙◌, arith}
use native.Mathlib.Nat.{not-le_of_lt}
use native.Mathlib.Numerals.{add-one-le}
use Rattle.words.specs.Width.{width_bits}
use Rattle.words.specs.Word.{laid, unpack}
use Rattle.words.proofs.BufferLaws.{per_width, holds_one, whole_words, full_prefix, unpack_step, unpack_stop}
use Rattle.words.proofs.Numbers.{length_numbers, numbers_put, numbers_part}
use Rattle.words.proofs.buffer.unpack_words.Goals as goal

pub returns-then-full-words : goal.returns-then-full-words
returns-then-full-words g c =
    let t = g.T.Word in
    let k = width_bits t.width in
    let s = c.spread in
    let f = c.unpack_full in
    let m = c.min-then-full-words in
    let a = c.args in
    let n = c.min-full.result in
    let p = c.per_word-per_word.result in
    let size = length a.out.now in
    let per = per_width c.per_word-per_word.ensures c.width.ensures in
    let full = c.min-full.ensures ∙ ap (λ (q : ℕ). min (length a.words.now) (c.min.result / q)) per in
    let w = whole_words k n c.min.result a.total (length a.words.now) size (holds_one t.width) full c.min.ensures in
    let whole = f.ensures ∙ ap (λ (l : List ℕ). laid l (t.numbers a.out.now)) (full_prefix a.order k a.total n a.words.now w.1) in
    let more = c.if-full-words.true in
    let room = length f.new.out - p * n in
    let count = m.ensures ∙ ap (λ (q : ℕ). min q (a.total - q * n)) per in
    let spread = s.ensures ∙ ap (laid (unpack a.order k m.result _)) (numbers_part t.laws (p * n) room f.new.out) in
    numbers_put t.laws (p * n) room f.new.out s.new.out
    ∙ unpack_step a.order k a.total n (p * n) room m.result _ a.words.now (t.numbers a.out.now) (t.numbers f.new.out) (t.numbers s.new.out)
    more w.1 (ap (λ (q : ℕ). q * n) per) count refl whole spread (λ h. absurd (omega (arith, length_numbers t.laws f.new.out)))
    ∙ unpack_stop a.order k a.total (n + 1) a.words.now (t.numbers a.out.now) (add-one-le more) (λ h. rw (length_numbers t.laws a.out.now) (w.3 more))

pub returns-else-full-words : goal.returns-else-full-words
returns-else-full-words g c =
    let t = g.T.Word in
    let k = width_bits t.width in
    let f = c.unpack_full in
    let a = c.args in
    let n = c.min-full.result in
    let size = length a.out.now in
    let per = per_width c.per_word-per_word.ensures c.width.ensures in
    let full = c.min-full.ensures ∙ ap (λ (q : ℕ). min (length a.words.now) (c.min.result / q)) per in
    let w = whole_words k n c.min.result a.total (length a.words.now) size (holds_one t.width) full c.min.ensures in
    f.ensures
    ∙ ap (λ (l : List ℕ). laid l (t.numbers a.out.now)) (full_prefix a.order k a.total n a.words.now w.1)
    ∙ unpack_stop a.order k a.total n a.words.now (t.numbers a.out.now) w.0 (λ h. absurd (not-le_of_lt h c.if-full-words.false))
