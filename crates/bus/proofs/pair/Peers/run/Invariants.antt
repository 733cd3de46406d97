use Rattle.std.proofs.Common.{◌≡◌, take}
use Rattle.agreement.specs.Start.{Start}
use Rattle.agreement.specs.Codes.{events_of}
use Rattle.agreement.specs.Events.{fresh_pair, pair_after}
use Rattle.bus.specs.Held.{job_of, pair_of, Linked}
use Rattle.bus.proofs.pair.Peers.run.Given as goal

abbrev pub invariant-loop-code : goal.invariant-loop-code
invariant-loop-code l =
    (g a : Start) → Linked g a (job_of l.links.gate) (job_of l.links.antenna) → pair_of l.initial.self ≡ fresh_pair g a
    → pair_of l.self ≡ pair_after g a (events_of (take l.code-index l.events))
