-- `drive` meets its contract: an access more, or an end by the budget or where the machine halts.
-- Assumes nothing.
use Rattle.std.proofs.Common.{length, sym, ap, subst, ◌∙◌}
use Rattle.sequences.specs.declared.access.Access.{Access}
use Rattle.runs.specs.Run.{halted, ending_of}
use Rattle.runs.specs.Running.{At}
use Rattle.runs.proofs.DriveLaws.{accessed, kept_on, ended_full, ended_halted}
use Rattle.runs.proofs.running.Running.drive.Goals.{then-self-via-then-self, then-self-via-else-self+then-halted}
use Rattle.runs.proofs.running.Running.drive.Goals as goal

pub loop-self-preserved : goal.loop-self-preserved
loop-self-preserved g c =
    let due = g.M.Machine.due in
    let after = g.M.Machine.after in
    let l = c.loop-self in
    let x = c.access in (
      kept_on l.invariant.0 x.ensures.kept,
      λ t old olds h.
          subst (λ (m : g.row.M.Denot). At due after old olds t m x.new.self) (sym c.answered-m.ensures)
          (accessed due after old olds t l.m l.self x.new.self c.next-access.result x.result x.ensures.kept x.ensures.accessed
          (sym c.next-access.ensures) (sym c.halted.ensures ∙ c.if-halted.false) (l.invariant.1 t old olds h)),
    )

pub returns-then-self-clause-ended : goal.returns-then-self-clause-ended
returns-then-self-clause-ended g c =
    let due = g.M.Machine.due in
    let after = g.M.Machine.after in
    let l = c.loop-self in
    let n = c.next-access.ensures in
    λ t old olds h.
    let here = l.invariant.1 t old olds h in
    let e = c.ending_of.ensures ∙ ap ending_of n in
    elim c.then-self.branch [
      | then-self-via-then-self w ↦ ended_full due after old olds t l.m l.self c.ending_of.result here w.if-self.true e
      | then-self-via-else-self+then-halted w ↦
          ended_halted due after old olds t l.m l.self c.ending_of.result here
          (ap (λ (a : Access). halted a l.self.spot.used (length l.self.script.now)) (sym n) ∙ sym w.halted.ensures ∙ w.if-halted.true) e
    ]
