-- `filled_word` meets its contract. The loop's invariant: the word so far is that of the elements so far.
-- Assumes nothing.
use Rattle.std.proofs.Common.{arith}
use Rattle.words.specs.Width.{width_bits}
use Rattle.words.specs.Buffer.{dummy}
use Rattle.words.proofs.BufferLaws.{word_step}
use Rattle.words.proofs.pack.filled_word.Goals as goal

pub loop-i-preserved : goal.loop-i-preserved
loop-i-preserved g c =
    let t = g.T.Word in
    let k = width_bits t.width in
    let l = c.loop-i in
    let a = c.args in
    let e = c.element_at in
    let m = c.append-word in (
      omega arith,
      word_step a.order k (dummy k) l.i a.at e.result l.word m.result (t.numbers a.xs.now) e.ensures.0 l.invariant.1 m.ensures.0,
      m.ensures.1,
    )
