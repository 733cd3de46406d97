-- `ahead` meets its contract: nothing done, the waiting for the command's place, or the turns after it.
-- Assumes nothing.
use Rattle.std.proofs.Common.{◌≡◌, refl, sym, ap, subst, ◌∙◌}
use Rattle.machine.specs.declared.transfer.Transfer.{Transfer}
use Rattle.machine.specs.declared.transfer.Work.{Work}
use Rattle.machine.specs.Transfer.{at_start, turn_at, due_access, resumed}
use Rattle.machine.proofs.StartLaws.{at_start_lem}
use Rattle.runs.specs.Running.{At}
use Rattle.runs.proofs.TurnLaws.{uncommanded, was_commanded}
use Rattle.runs.proofs.running.Running.ahead.Goals as goal

pub returns-then-is_none-clause-ahead : goal.returns-then-is_none-clause-ahead
returns-then-is_none-clause-ahead c =
    let t = c.args.transfer in
    let w = c.work-work in
    let k = c.command in
    let begins = at_start t.reset w.result.command w.result.send w.result.receive in
    let same : begins ≡ t =
    ap (λ (x : Work). at_start t.reset x.command x.send x.receive) w.ensures
    ∙ sym (at_start_lem t (sym c.is_at_start.ensures ∙ c.if-not-is_at_start.false)) in
    λ old olds z h.
    subst (λ (x : Transfer). At due_access resumed old olds x x k.new.self) same
    (subst (λ (x : Transfer). At due_access resumed old olds begins x k.new.self)
    (uncommanded k.result begins c.is_none.result c.is_none.ensures c.if-is_none.true)
    (k.ensures.waited t.reset w.result.send w.result.receive old olds
    (subst (λ (x : Transfer). At due_access resumed old olds x x c.args.self.now) (sym same) h)))

pub returns-clause-ahead : goal.returns-clause-ahead
returns-clause-ahead c =
    let t = c.args.transfer in
    let w = c.work-work in
    let k = c.command in
    let u = c.take_turns-left in
    let begins = at_start t.reset w.result.command w.result.send w.result.receive in
    let same : begins ≡ t =
    ap (λ (x : Work). at_start t.reset x.command x.send x.receive) w.ensures
    ∙ sym (at_start_lem t (sym c.is_at_start.ensures ∙ c.if-not-is_at_start.false)) in
    λ old olds z h.
    let first =
    subst (λ (x : Transfer). At due_access resumed old olds begins x k.new.self)
    (was_commanded k.result begins k.new.self.spot.received c.is_none.result c.is_none.ensures c.if-is_none.false (k.ensures.received ∙ z))
    (k.ensures.waited t.reset w.result.send w.result.receive old olds
    (subst (λ (x : Transfer). At due_access resumed old olds x x c.args.self.now) (sym same) h)) in
    subst (λ (x : Transfer). At due_access resumed old olds t x u.new.self) (sym c.at_turn.ensures)
    (subst
    (λ (x : Transfer). At due_access resumed old olds x (turn_at u.result.side u.result.sent u.new.self.spot.received x) u.new.self)
    same (u.ensures.onward begins old olds refl refl first))
