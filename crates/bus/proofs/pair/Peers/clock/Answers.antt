use Rattle.std.proofs.Common.{sym, ap, ap₂, ◌∙◌}
use Rattle.agreement.specs.End.{Wire, words_in, arrived}
use Rattle.agreement.specs.Events.{pair, rewired}
use Rattle.bus.specs.Held.{job_of, pair_of}
use Rattle.bus.proofs.PairLaws.{clock_some}
use Rattle.bus.proofs.pair.Peers.clock.Goals as goal

pub returns : goal.returns
returns c =
    let x = (pair_of c.args.self.now).gate in
    let y = (pair_of c.args.self.now).antenna in
    let j = job_of c.args.links.now.gate in
    let k = job_of c.args.links.now.antenna in
    ap₂ (λ (w u : Wire). pair (rewired (λ z. w) x) (rewired (λ z. u) y))
    (c.arrive.ensures ∙ ap₂ (arrived j.exponent) c.reply-theirs.ensures.word c.leave.ensures.wire)
    (c.arrive-2.ensures ∙ ap (arrived k.exponent c.in-Some.ours) c.reply-theirs.ensures.wire)
    ∙ clock_some j k x y (words_in x.wire.transmit) (words_in y.wire.transmit) c.in-Some.ours
    (sym c.in-Some.is ∙ c.leave.ensures.word)
