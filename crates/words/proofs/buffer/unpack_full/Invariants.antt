-- `unpack_full` meets its contract. The loop's invariant: the elements of the words so far are laid.
-- Assumes nothing.
use Rattle.std.proofs.Common.{◌≡◌, ◌≤◌, ◌*◌, take}
use Rattle.words.specs.Width.{width_bits}
use Rattle.words.specs.Word.{laid, per_word}
use Rattle.words.specs.Buffer.{unpack_words}
use Rattle.words.proofs.buffer.unpack_full.Given as goal

abbrev pub invariant-loop-i : goal.invariant-loop-i
invariant-loop-i g l =
    let t = g.T.Word in
    let k = width_bits t.width in
    (l.i ≤ l.n) × (t.numbers l.out ≡ laid (unpack_words l.order k (per_word k * l.n) (take l.i (take l.n l.words))) (t.numbers l.initial.out))
