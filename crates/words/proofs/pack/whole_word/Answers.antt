-- `whole_word` meets its contract. The loop's invariant: the word so far is that of the elements so far.
-- Assumes nothing.
use Rattle.std.proofs.Common.{◌∙◌, arith}
use Rattle.words.specs.Width.{width_bits}
use Rattle.words.proofs.BufferLaws.{word_more}
use Rattle.words.proofs.Numbers.{length_numbers, number_at}
use Rattle.words.proofs.pack.whole_word.Goals as goal

pub loop-i-preserved : goal.loop-i-preserved
loop-i-preserved g c =
    let t = g.T.Word in
    let k = width_bits t.width in
    let l = c.loop-i in
    let a = c.args in
    let ns = t.numbers a.xs.now in
    let m = c.append-word in
    let x = c.into_word.ensures.0 ∙ number_at t.laws a.xs.now l.i 0 _ c.loop-i-test.true c.index-xs-i.is in (
      omega arith,
      word_more a.order k l.i _ l.word m.result ns (omega (arith, length_numbers t.laws a.xs.now)) x l.invariant.1 m.ensures.0,
      m.ensures.1,
    )
