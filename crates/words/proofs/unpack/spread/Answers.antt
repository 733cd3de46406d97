-- `spread` meets its contract. The loop's invariant: the elements so far are laid.
-- Assumes nothing.
use Rattle.std.proofs.Common.{take, length-take, ap, ◌∙◌, arith}
use Rattle.words.specs.Word.{laid}
use Rattle.words.specs.Width.{width_bits}
use Rattle.words.proofs.BufferLaws.{store_step}
use Rattle.words.proofs.ElementLaws.{element_of, spread_front}
use Rattle.words.proofs.Numbers.{length_numbers, numbers_front, numbers_take, numbers_set}
use Rattle.words.proofs.unpack.spread.Goals as goal

pub loop-i-preserved : goal.loop-i-preserved
loop-i-preserved g c =
    let t = g.T.Word in
    let l = c.loop-i in
    let a = c.args in (
      omega arith,
      numbers_set t.laws l.x-items l.i c.element.result
          ∙ store_step l.i _ (element_of a.order (width_bits t.width) a.n a.word) (t.numbers (take c.min-room.result a.out.now)) _
          (omega (arith, length_numbers t.laws (take c.min-room.result a.out.now))) c.element.ensures l.invariant.1,
    )

pub returns : goal.returns
returns g c =
    let t = g.T.Word in
    let l = c.loop-i in
    let a = c.args in
    let m = c.min-room.result in
    numbers_front t.laws m a.out.now l.x-items
    ∙ spread_front a.order (width_bits t.width) a.n a.word l.i m (t.numbers a.out.now) _ (omega (arith, length-take m a.out.now))
    (omega (arith, length_numbers t.laws a.out.now)) (l.invariant.1 ∙ ap (laid _) (numbers_take t.laws m a.out.now))
