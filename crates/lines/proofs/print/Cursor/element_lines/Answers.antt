-- `element_lines` meets its contract, an element at a time.
-- Assumes nothing.
use Rattle.std.proofs.Common.{◌+◌, ◌*◌, ◌/◌, arith, ap, ◌∙◌}
use Rattle.words.specs.Width.{width_bits}
use Rattle.words.proofs.Numbers.{length_numbers}
use Rattle.lines.proofs.WrittenLaws.{left_start, left_step, left_end}
use Rattle.lines.proofs.ListingLaws.{length_elements, elements_step, elements_end}
use Rattle.lines.proofs.print.Cursor.element_lines.Goals as goal

pub loop-element-init : goal.loop-element-init
loop-element-init g c =
    let k = width_bits g.T.Word.width in
    let all =
    length_elements k (g.T.Word.numbers c.args.elements.now)
    ∙ ap (λ n. (k / 4 + 1) * n) (length_numbers g.T.Word.laws c.args.elements.now) in
    left_start _ _ (omega (arith, all, c.requires))

pub loop-element-preserved : goal.loop-element-preserved
loop-element-preserved g c =
    let l = c.loop-element in
    let e = c.element-item in
    left_step
    (rw
    (elements_step g.T.Word.laws (width_bits g.T.Word.width) c.args.elements.now l.element-index e.result c.loop-element-test.true e.is)
    at l.invariant)
    c.element_line.ensures.wrote

pub returns : goal.returns
returns g c =
    let l = c.loop-element in
    left_end (rw (elements_end g.T.Word.laws (width_bits g.T.Word.width) c.args.elements.now l.element-index c.loop-element-test.false) at l.invariant)
