-- A transfer that stands at its start is like one that has just begun.
-- Assumes nothing.
use Prim.Native.Nat.{ℕ}
use mathlib.Core.Bool.{Bool, true, false, ◌&&◌}
use mathlib.Core.Path.{◌≡◌, refl, ap₂}
use lib.Dec.{eqb}
use borrow.Author.Tests.{eqb-true}
use Rattle.sequences.specs.declared.sequence.Sequence.{Sequence}
use Rattle.machine.specs.declared.poll.Poll.TheVariants.{Status}
use Rattle.machine.specs.declared.transfer.Stage.{Stage}
use Rattle.machine.specs.declared.transfer.Stage.TheVariants.{Space}
use Rattle.machine.specs.declared.transfer.Transfer.{Transfer}
use Rattle.machine.specs.declared.transfer.Work.{Work}
use Rattle.machine.specs.Transfer.{at, at_start, starts_in, is_at_start}

both : (a b : Bool) → (a && b) ≡ true → (a ≡ true) × (b ≡ true)
both true b e = (refl, e)
both false b e = (e, cc)

abbrev Begun : Stage → Work → Sequence → Type 0
Begun p w r = at p w r ≡ at_start r w.command w.send w.receive

-- no word is done
none_done : (w : Work) (r : Sequence) → w.sent ≡ 0 → w.received ≡ 0 → Begun (Space Status) w r
none_done w r es er = ap₂ (λ (m n : ℕ). at (Space Status) (record w { sent = m; received = n }) r) es er

by_stage : (p : Stage) (w : Work) (r : Sequence) → starts_in p ≡ true → w.sent ≡ 0 → w.received ≡ 0 → Begun p w r
by_stage (Space Status) w r e es er = none_done w r es er
by_stage p w r e es er = cc

pub at_start_lem : (t : Transfer) → is_at_start t ≡ true → t ≡ at_start t.reset t.work.command t.work.send t.work.receive
at_start_lem t e =
    let whole = both (starts_in t.phase) (eqb t.work.sent 0 && eqb t.work.received 0) e in
    let words = both (eqb t.work.sent 0) (eqb t.work.received 0) whole.1 in
    by_stage t.phase t.work t.reset whole.0 (eqb-true t.work.sent 0 words.0) (eqb-true t.work.received 0 words.1)
