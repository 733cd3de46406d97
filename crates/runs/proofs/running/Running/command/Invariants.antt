-- `command` meets its contract. The loop's invariant: the transfer still stands at its start.
-- Assumes nothing.
use Rattle.std.proofs.Common.{◌≡◌, ◌-◌}
use Rattle.std.specs.Prelude.{None}
use Rattle.runs.specs.Running.{Kept}
use Rattle.runs.specs.Turns.{Waited}
use Rattle.runs.proofs.running.Running.command.Given as goal

abbrev pub invariant-loop : goal.invariant-loop
invariant-loop l =
    Kept l.initial.self l.self × (l.self.spot.received ≡ l.initial.self.spot.received) × Waited l.command l.initial.self None l.self

abbrev pub decreases-loop : goal.decreases-loop
decreases-loop l = l.self.budget - l.self.spot.made
