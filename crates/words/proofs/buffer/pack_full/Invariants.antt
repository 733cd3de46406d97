-- `pack_full` meets its contract. The loop's invariant: the words so far are laid, and the parts of the others are left.
-- Assumes nothing.
use Rattle.std.proofs.Common.{◌≡◌, ◌≤◌, ◌*◌, take, drop}
use Rattle.std.specs.Iterator.Adapters.{enumerate_source, enumerate_count}
use Rattle.std.specs.Slice.Iter.{chunks_exact_rest, chunks_exact_size}
use Rattle.words.specs.Width.{width_bits}
use Rattle.words.specs.Word.{laid, per_word}
use Rattle.words.specs.Buffer.{tabulate, word_at}
use Rattle.words.proofs.buffer.pack_full.Given as goal

abbrev pub invariant-loop-i : goal.invariant-loop-i
invariant-loop-i g l =
    let t = g.T.Word in
    let k = width_bits t.width in
    let it = l.i-iterator in
    let i = enumerate_count it in
    (goal.iterator-loop-i g).can_next it × (goal.iterator-loop-i g).is_finite it
    × (chunks_exact_size (enumerate_source it) ≡ per_word k)
    × (chunks_exact_rest (enumerate_source it) ≡ drop (per_word k * i) (take (per_word k * l.n) l.xs))
    × (i ≤ l.n) × (l.words ≡ laid (tabulate i (word_at l.order k (per_word k * l.n) (t.numbers l.xs))) l.initial.words)
