-- `element_line` meets its contract: its digits and the newline.
-- Assumes nothing.
use Rattle.std.proofs.Common.{ℕ, ◌/◌, ◌≡◌, ap, ◌∙◌}
use Rattle.words.specs.Width.{width_bits}
use Rattle.lines.proofs.WrittenLaws.{puts_then}
use Rattle.lines.proofs.print.Cursor.element_line.Goals as goal

pub returns-clause-wrote : goal.returns-clause-wrote
returns-clause-wrote g c =
    let k : c.from.result ≡ width_bits g.T.Word.width / 4 =
    c.from.ensures ∙ ap (λ (b : ℕ). b / 4) (c.bits.ensures.0 ∙ ap width_bits c.width.ensures) in
    puts_then (rw (k, c.into_word.ensures.0) at c.digits.ensures) c.put.ensures
