-- `whole_word` meets its contract. The loop's invariant: the word so far is that of the elements so far.
-- Assumes nothing.
use Rattle.std.proofs.Common.{◌≡◌, ◌≤◌, ◌<◌, ◌*◌, ◌^◌, length, take}
use Rattle.words.specs.Width.{width_bits}
use Rattle.words.specs.Word.{pack}
use Rattle.words.proofs.pack.whole_word.Given as goal

abbrev pub invariant-loop-i : goal.invariant-loop-i
invariant-loop-i g l =
    let t = g.T.Word in
    let k = width_bits t.width in
    (l.i ≤ length l.xs) × (l.word ≡ pack l.order k (take l.i (t.numbers l.xs))) × (l.word < 2 ^ (k * l.i))
