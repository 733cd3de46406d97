-- `pack_rest` meets its contract. The loop's invariant: where the words before `from` were laid, those so far are.
-- Assumes nothing.
use Rattle.std.proofs.Common.{◌≡◌, ◌≤◌, ℕ, List}
use Rattle.words.specs.Width.{width_bits}
use Rattle.words.specs.Word.{laid}
use Rattle.words.specs.Buffer.{tabulate, word_at}
use Rattle.words.proofs.buffer.pack_rest.Given as goal

abbrev pub invariant-loop-i : goal.invariant-loop-i
invariant-loop-i g l =
    let t = g.T.Word in
    let f = word_at l.order (width_bits t.width) l.total (t.numbers l.xs) in
    (l.i ≤ l.n) × ((ws : List ℕ) → l.initial.words ≡ laid (tabulate l.from f) ws → l.words ≡ laid (tabulate l.i f) ws)
