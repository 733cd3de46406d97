use Rattle.std.proofs.Common.{ap₂, subst}
use Rattle.words.specs.declared.width.Width.{Width}
use Rattle.words.specs.Width.{width_bits}
use Rattle.agreement.specs.Events.{pair}
use Rattle.bus.specs.Held.{Prepared, Ran}
use Rattle.bus.specs.Trial.{start_of}
use Rattle.bus.proofs.TrialLaws.{tried}
use Rattle.bus.proofs.trial.trial.Goals as goal

pub returns : goal.returns
returns g c =
    let t = g.T.Word in
    let a = c.args in
    let x = c.enter-ours in
    let y = c.enter-theirs in
    let run = c.play-result in
    let gr = t.numbers a.gate_read.now in
    let gw = t.numbers a.gate_write.now in
    let ar = t.numbers a.antenna_read.now in
    let aw = t.numbers a.antenna_write.now in
    let ran =
    subst
    (λ (w : Width).
    Prepared (width_bits w) x.result gr gw → Prepared (width_bits w) y.result ar aw
    → Ran (width_bits w) (start_of x.result.board gr gw) (start_of y.result.board ar aw) a.events.now run.result run.new.self)
    c.width.ensures (run.ensures (ap₂ pair c.fresh.ensures c.fresh-2.ensures) gr gw ar aw) x.ensures.prepared y.ensures.prepared in
    tried (width_bits t.width) x.result y.result gr gw ar aw a.events.now _ run.new.self _ _ x.ensures.prepared y.ensures.prepared ran
    c.shown.ensures c.shown-2.ensures c.unpack.ensures c.unpack-2.ensures x.ensures.board y.ensures.board
    x.ensures.read x.ensures.write y.ensures.read y.ensures.write
