-- `filled_word` meets its contract. The loop's invariant: the word so far is that of the elements so far.
-- Assumes nothing.
use Rattle.std.proofs.Common.{◌≡◌, ◌≤◌, ◌<◌, ◌*◌, ◌^◌, drop}
use Rattle.words.specs.Width.{width_bits}
use Rattle.words.specs.Word.{pack}
use Rattle.words.specs.Buffer.{dummy, filled}
use Rattle.words.proofs.pack.filled_word.Given as goal

abbrev pub invariant-loop-i : goal.invariant-loop-i
invariant-loop-i g l =
    let t = g.T.Word in
    let k = width_bits t.width in
    (l.i ≤ l.count) × (l.word ≡ pack l.order k (filled (dummy k) l.i (drop l.at (t.numbers l.xs)))) × (l.word < 2 ^ (k * l.i))
