-- `pack_words` meets its contract: the whole words, then the rest, up to the end of the transfer or of the words.
-- Assumes nothing.
use Rattle.std.proofs.Common.{◌≡◌, ◌≤◌, ◌<◌, ◌*◌, ℕ, List, refl, ap, subst, ◌∙◌, arith}
use Rattle.words.specs.declared.width.Width.{Width}
use Rattle.words.specs.Width.{width_bits}
use Rattle.words.specs.Word.{per_word, laid}
use Rattle.words.specs.Buffer.{word_at, word_count}
use Rattle.words.proofs.BufferLaws.{per_width, store_stop, words_prefix, count_whole, whole_fit}
use Rattle.words.proofs.buffer.pack_words.Goals as goal

pub returns : goal.returns
returns g c =
    let t = g.T.Word in
    let k = width_bits t.width in
    let a = c.args in
    let ns = t.numbers a.xs.now in
    let n = c.min-n.result in
    let full = c.min-full.result in
    let f = word_at a.order k a.total ns in
    let per = per_width c.per_word.ensures c.width-2.ensures in
    let count : c.word_count.result ≡ word_count k a.total = c.word_count.ensures ∙ ap (λ (w : Width). word_count (width_bits w) a.total) c.width.ensures in
    let whole : c.per_word.result * full ≤ c.min.result = whole_fit _ _ _ (omega arith) in
    let fits : per_word k * full ≤ a.total = subst (λ (p : ℕ). p * full ≤ a.total) per (omega (arith, whole)) in
    let first =
    c.pack_full.ensures
    ∙ ap (λ (l : List ℕ). laid l a.words.now) (words_prefix a.order k a.total full ns (count_whole t.width full) fits) in
    store_stop n (word_count k a.total) f f a.words.now _ (omega arith) (λ (h : n < word_count k a.total). omega arith)
    (λ j h. refl) (c.pack_rest.ensures a.words.now first)
