-- `receive_turns` meets its contract. The loop's invariant: it stays with the run.
-- Assumes nothing.
use Rattle.std.proofs.Common.{◌-◌}
use Rattle.words.specs.declared.transaction.Direction.TheVariants.{Rx}
use Rattle.runs.specs.Running.{Kept}
use Rattle.runs.specs.Turns.{turn, Onward}
use Rattle.runs.proofs.running.Running.receive_turns.Given as goal

abbrev pub invariant-loop-self : goal.invariant-loop-self
invariant-loop-self l =
    Kept l.initial.self l.self × Onward l.plan (turn Rx l.sent) l.initial.self (turn Rx l.sent) l.self

abbrev pub decreases-loop-self : goal.decreases-loop-self
decreases-loop-self l = l.self.budget - l.self.spot.made
