use Rattle.std.proofs.Common.{[], ◌∷◌, length, length-append, ap, arith}
use Rattle.bus.proofs.QueuedLaws.{length_queued}
use Rattle.bus.proofs.port.Port.send.Goals as goal

pub invariant_of-self : goal.invariant_of-self
invariant_of-self c =
    let p = c.args.self.now in
    record {
      places = omega (arith, ap length c.push.ensures, length-append p.transmit (c.args.word ∷ []), length_queued p.commands p.transmit, c.taken.ensures.taken, c.capacity.ensures.few, c.if-capacity-taken.false);
    }
