-- `listing` meets its contract: its parts, each behind the one before.
-- Assumes nothing.
use Rattle.std.proofs.Common.{◌+◌, ◌*◌, ◌/◌, length, take, arith, ap, ◌∙◌, length-take-le, mul-le-mul_right}
use Rattle.words.specs.Width.{width_bits}
use Rattle.words.proofs.Numbers.{length_numbers}
use Rattle.lines.proofs.WrittenLaws.{puts_then}
use Rattle.lines.proofs.ListingLaws.{accesses_size, length_elements, element_size}
use Rattle.lines.proofs.print.Cursor.listing.Goals as goal

pub element_lines-requires : goal.element_lines-requires
element_lines-requires g c =
    let a = c.args in
    let front = take (2 * a.r.accesses) a.log.now in
    let made = length-take-le (2 * a.r.accesses) a.log.now c.requires.fits.pairs in
    let size = mul-le-mul_right (length a.read.now) (element_size g.T.Word.width) in
    let w = c.access_lines.ensures in
    omega (arith, made, accesses_size front, size, w.at, w.size, c.requires.fits.accesses, c.requires.fits.read, c.requires.room)

pub result_line-requires : goal.result_line-requires
result_line-requires g c =
    let a = c.args in
    let k = width_bits g.T.Word.width in
    let front = take (2 * a.r.accesses) a.log.now in
    let made = length-take-le (2 * a.r.accesses) a.log.now c.requires.fits.pairs in
    let size = mul-le-mul_right (length a.read.now) (element_size g.T.Word.width) in
    let all =
    length_elements k (g.T.Word.numbers a.read.now)
    ∙ ap (λ n. (k / 4 + 1) * n) (length_numbers g.T.Word.laws a.read.now) in
    let w = c.access_lines.ensures in
    let e = c.element_lines.ensures in
    omega (arith, made, accesses_size front, size, all, w.at, w.size, e.at, e.size, c.requires.fits.accesses, c.requires.fits.read, c.requires.room)

pub returns : goal.returns
returns g c = puts_then c.access_lines.ensures (puts_then c.element_lines.ensures (rw (c.ending_number.ensures) at c.result_line.ensures))
