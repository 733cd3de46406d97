-- `spread` meets its contract. The loop's invariant: the elements so far are laid.
-- Assumes nothing.
use Rattle.std.proofs.Common.{◌≡◌, ◌≤◌}
use Rattle.words.specs.Width.{width_bits}
use Rattle.words.specs.Word.{laid}
use Rattle.words.specs.Buffer.{tabulate}
use Rattle.words.proofs.ElementLaws.{element_of}
use Rattle.words.proofs.unpack.spread.Given as goal

abbrev pub invariant-loop-i : goal.invariant-loop-i
invariant-loop-i g l =
    let t = g.T.Word in
    (l.i ≤ l.i-end) × (t.numbers l.x-items ≡ laid (tabulate l.i (element_of l.order (width_bits t.width) l.n l.word)) (t.numbers l.initial.x-items))
