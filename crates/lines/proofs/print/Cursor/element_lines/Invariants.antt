-- The elements that are left.
-- Assumes nothing.
use Rattle.std.proofs.Common.{drop}
use Rattle.words.specs.Width.{width_bits}
use Rattle.lines.specs.Listing.{element_lines}
use Rattle.lines.proofs.WrittenLaws.{PutsLeft}
use Rattle.lines.proofs.print.Cursor.element_lines.Given as goal

abbrev pub invariant-loop-element : goal.invariant-loop-element
invariant-loop-element g l =
    let k = width_bits g.T.Word.width in
    PutsLeft l.fn.self l.self (element_lines k (g.T.Word.numbers l.elements)) (element_lines k (g.T.Word.numbers (drop l.element-index l.elements)))
