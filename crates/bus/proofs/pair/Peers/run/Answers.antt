use Rattle.std.proofs.Common.{ap, ◌∙◌}
use Rattle.agreement.specs.declared.event.Event.{Event}
use Rattle.agreement.specs.Events.{after, happened}
use Rattle.bus.specs.Held.{job_of, pair_of}
use Rattle.bus.proofs.RunLaws.{one_more}
use Rattle.bus.proofs.pair.Peers.run.Goals as goal

pub loop-code-init : goal.loop-code-init
unfolding after
loop-code-init c = λ g a l e. e

pub loop-code-preserved : goal.loop-code-preserved
loop-code-preserved c =
    let l = c.loop-code in
    let j = job_of c.args.links.now.gate in
    let k = job_of c.args.links.now.antenna in
    λ g a linked came.
    one_more g a j k linked l.self c.args.events.now l.code-index c.loop-code-test.true (l.invariant g a linked came)
    (pair_of c.happen.new.self)
    (λ p q. c.happen.ensures p q ∙ ap (λ (v : Event). happened j k (pair_of l.self) v) c.event_of.ensures)
