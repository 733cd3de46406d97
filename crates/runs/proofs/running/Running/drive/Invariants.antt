-- `drive` meets its contract. The loop's invariant: it holds the run's state.
-- Assumes nothing.
use Rattle.std.proofs.Common.{ℕ, ◌-◌, List}
use Rattle.runs.specs.Running.{Kept, At}
use Rattle.runs.proofs.running.Running.drive.Given as goal

abbrev pub invariant-loop-self : goal.invariant-loop-self
invariant-loop-self g l =
    Kept l.initial.self l.self
    × ((t : g.row.M.Denot) (old olds : List ℕ)
    → At g.M.Machine.due g.M.Machine.after old olds t l.initial.m l.initial.self
    → At g.M.Machine.due g.M.Machine.after old olds t l.m l.self)

abbrev pub decreases-loop-self : goal.decreases-loop-self
decreases-loop-self g l = l.self.budget - l.self.spot.made
