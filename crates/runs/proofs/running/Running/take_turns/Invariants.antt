-- `take_turns` meets its contract. The loop's invariant: it stays with the run.
-- Assumes nothing.
use Rattle.std.proofs.Common.{◌-◌}
use Rattle.words.specs.declared.transaction.Direction.TheVariants.{Tx}
use Rattle.runs.specs.Running.{Kept}
use Rattle.runs.specs.Turns.{turn, Onward}
use Rattle.runs.proofs.running.Running.take_turns.Given as goal

abbrev pub invariant-loop-n : goal.invariant-loop-n
invariant-loop-n l =
    Kept l.initial.self l.self × Onward l.plan (turn Tx l.initial.sent) l.initial.self (turn Tx l.sent) l.self

abbrev pub decreases-loop-n : goal.decreases-loop-n
decreases-loop-n l = l.self.budget - l.self.spot.made
