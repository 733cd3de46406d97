-- `access_lines` meets its contract, an access at a time.
-- Assumes nothing.
use Rattle.std.proofs.Common.{◌+◌, ◌<◌, ◌≡◌, length, refl, arith}
use Rattle.lines.proofs.WrittenLaws.{left_start, left_step, left_end}
use Rattle.lines.proofs.ListingLaws.{accesses_step, accesses_end, accesses_size}
use Rattle.lines.proofs.print.Cursor.access_lines.Goals as goal

pub loop-register-init : goal.loop-register-init
loop-register-init c = left_start _ _ (omega (arith, accesses_size c.args.log.now, c.requires))

pub loop-register-preserved : goal.loop-register-preserved
loop-register-preserved c =
    let l = c.loop-register in
    let access = c.in-Some.field-0-0.now in
    let others = c.in-Some.others.now in
    let e = c.in-Some.ensures.cases in
    let n : length others + 2 ≡ length l.left.now = e.2 in
    left_step (rw (accesses_step l.left.now access others _ _ (omega (arith, n)) e.0 e.1 refl refl) at l.invariant)
    c.access_line.ensures.wrote

pub returns : goal.returns
returns c =
    let l = c.loop-register in
    let n : length l.left.now < 2 = c.in_default.ensures.cases in
    left_end (rw (accesses_end l.left.now n) at l.invariant)
