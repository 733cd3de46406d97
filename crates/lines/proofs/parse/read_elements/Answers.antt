-- `read_elements` meets its contract.
-- Assumes nothing.
use Rattle.std.proofs.Common.{◌<◌, ◌≡◌, [], ◌∷◌, ◌++◌, Some, take, arith, length-set, sym, ap, ◌∙◌}
use Rattle.std.proofs.Math.Nat.{mod-eq_of_lt}
use Rattle.words.specs.Width.{width_bits}
use Rattle.lines.specs.Fields.{fields}
use Rattle.lines.specs.Grammar.{element}
use Rattle.lines.proofs.ElementLaws.{togo, togo_none, togo_start, togo_more, togo_full, element_below, stored, length_before}
use Rattle.lines.proofs.parse.read_elements.Goals.{then-is_empty, else-is_empty}
use Rattle.lines.proofs.parse.read_elements.Goals as goal

pub loop-rest-init : goal.loop-rest-init
loop-rest-init g c =
    let k = width_bits g.T.Word.width in
    let line = c.args.line.now in
    let none : g.T.Word.numbers [] ≡ [] = g.T.Word.laws.each [] in (
      omega arith,
      c.told-out,
      rw none
          (elim c.if-is_empty.branch [
            | then-is_empty w ↦ rw w.rest-is (togo_none k g.row.N line w.if-is_empty.ensures)
            | else-is_empty w ↦ rw w.rest-is (togo_start k g.row.N line w.if-is_empty.ensures)
          ]),
    )

pub returns-then-n-clause-value : goal.returns-then-n-clause-value
returns-then-n-clause-value g c =
    let l = c.loop-rest in
    let k = width_bits g.T.Word.width in
    let parts : fields l.rest ≡ c.first_field.result.0.now ∷ fields c.first_field.result.1 =
    ap fields c.in-Some.is ∙ c.first_field.ensures in
    let e : element k c.first_field.result.0.now ≡ Some c.in_ok-x.x =
    ap (λ w. element (width_bits w) c.first_field.result.0.now) (sym c.width.ensures) ∙ sym c.read_element.ensures ∙ c.in_ok-x.was in
    let before = length_before g.T.Word.laws l.out l.n (omega arith) in
    sym (togo_full k g.row.N c.in_ok-x.x _ _ _ e (omega (arith, before, c.if-n.true)))
    ∙ ap (togo k g.row.N (g.T.Word.numbers (take l.n l.out))) (sym parts)
    ∙ l.invariant.2

pub loop-rest-preserved : goal.loop-rest-preserved
loop-rest-preserved g c =
    let l = c.loop-rest in
    let k = width_bits g.T.Word.width in
    let parts : fields l.rest ≡ c.first_field.result.0.now ∷ fields c.first_field.result.1 =
    ap fields c.in-Some.is ∙ c.first_field.ensures in
    let e : element k c.first_field.result.0.now ≡ Some c.in_ok-x.x =
    ap (λ w. element (width_bits w) c.first_field.result.0.now) (sym c.width.ensures) ∙ sym c.read_element.ensures ∙ c.in_ok-x.was in
    let whole : g.T.Word.number c.from_word.result ≡ c.in_ok-x.x =
    c.from_word.ensures ∙ mod-eq_of_lt (element_below k _ c.in_ok-x.x e) in
    let room : l.n < g.row.N = omega (arith, l.invariant.0, c.if-n.false) in (
      omega (arith, room),
      length-set l.out l.n c.from_word.result ∙ l.invariant.1,
      ap (λ xs. togo k g.row.N xs (fields c.first_field.result.1))
          (stored g.T.Word.laws l.out l.n c.from_word.result (omega (arith, room, l.invariant.1)) ∙ ap (λ x. g.T.Word.numbers (take l.n l.out) ++ (x ∷ [])) whole)
          ∙ sym (togo_more k g.row.N c.in_ok-x.x _ _ _ e)
          ∙ ap (togo k g.row.N (g.T.Word.numbers (take l.n l.out))) (sym parts)
          ∙ l.invariant.2,
    )
