use Rattle.std.proofs.Common.{sym, ◌∙◌}
use Rattle.words.specs.Width.{width_bits}
use Rattle.bus.specs.Trial.{start_of}
use Rattle.bus.proofs.TrialLaws.{linked, started_pair, ran_refused, ran_events}
use Rattle.bus.proofs.pair.Peers.play.Goals as goal

pub returns-then-is_unpaired : goal.returns-then-is_unpaired
returns-then-is_unpaired c = λ came gr gw ar aw pg pa.
    let a = c.args in
    ran_refused (width_bits a.width) a.gate.now a.antenna.now gr gw ar aw pg pa a.events.now a.self.now _
    (sym c.if-is_unpaired.true ∙ c.is_unpaired.ensures) came

pub returns : goal.returns
returns c = λ came gr gw ar aw pg pa.
    let a = c.args in
    let k = width_bits a.width in
    let fits = sym c.if-is_unpaired.false ∙ c.is_unpaired.ensures in
    let s = start_of a.gate.now.board gr gw in
    let t = start_of a.antenna.now.board ar aw in
    ran_events k a.gate.now a.antenna.now gr gw ar aw pg pa a.events.now c.run.new.self _ fits
    (c.run.ensures s t (linked k a.gate.now a.antenna.now gr gw ar aw pg pa fits c.link.ensures c.link-2.ensures)
    (came ∙ started_pair k a.gate.now a.antenna.now gr gw ar aw pg pa))
