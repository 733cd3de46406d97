-- `digits` meets its contract.
-- Assumes nothing.
use Rattle.std.proofs.Common.{◌≡◌, sym, arith, length-set, ap, ◌∙◌}
use Rattle.lines.specs.Text.{digits, written}
use Rattle.lines.proofs.WrittenLaws.{length_digits, written_nothing, digits_stored}
use Rattle.lines.proofs.print.Cursor.digits.Goals as goal

pub loop-i-preserved : goal.loop-i-preserved
loop-i-preserved c =
    let l = c.loop-i in (
      l.invariant.0,
      l.invariant.1,
      length-set l.self.out.now _ _ ∙ l.invariant.2,
      digits_stored l.self.out.now l.self.at c.args.base l.i l.rest c.glyph.result (omega (arith, c.loop-i-test.true))
          (omega (arith, l.invariant.1, l.invariant.2, l.auto.i, c.requires.2)) c.glyph.ensures
          ∙ l.invariant.3,
    )

pub returns : goal.returns
returns c =
    let a = c.args in
    let l = c.loop-i in
    let ends : l.i ≡ 0 = omega (arith, c.loop-i-test.false) in
    record {
      same = l.invariant.0;
      at = omega (arith, l.invariant.1, length_digits a.base a.k a.n);
      fits = omega (arith, l.invariant.1, l.invariant.2, c.requires.2);
      size = l.invariant.2;
      out =
          written_nothing l.self.out.now l.self.at
          ∙ ap (λ i. written l.self.out.now l.self.at (digits a.base i l.rest)) (sym ends)
          ∙ l.invariant.3
          ∙ ap (λ at. written a.self.now.out.now at (digits a.base a.k a.n)) l.invariant.1;
    }
