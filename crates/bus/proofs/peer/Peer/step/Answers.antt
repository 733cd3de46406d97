use Rattle.std.proofs.Common.{sym, refl, ap, ◌∙◌, subst}
use Rattle.sequences.specs.declared.access.Access.{Access}
use Rattle.agreement.specs.End.{answer_to}
use Rattle.bus.specs.Held.{end_of, job_of, made, Ready}
use Rattle.bus.specs.View.{wire_of}
use Rattle.bus.proofs.PairLaws.{same_end, step_is}
use Rattle.bus.proofs.peer.Peer.step.Goals as goal

pub returns : goal.returns
returns c = λ h.
    let p = c.args.self.now in
    let j = job_of c.args.link.now in
    let v = c.make-value.result in
    let due = c.due-access.ensures in
    let told = c.answered.ensures in
    step_is j c.args.busy (end_of p) (end_of c.make-value.new.self) _ v
    (c.make-value.ensures.answer ∙ ap (answer_to j.exponent c.args.busy (wire_of p.station.port) p.registers) due)
    (c.make-value.ensures.made (subst (λ (a : Access). Ready a p) (sym due) h) ∙ ap (λ (a : Access). made j a v (end_of p)) due)
    (same_end told.transfer told.flush refl (ap wire_of told.port) refl)
