-- `flush` meets its contract. The loop's invariant: before each read of SR it holds the run's state.
-- Assumes nothing.
use Rattle.std.proofs.Common.{◌≡◌, ◌-◌, ℕ, List, length, false}
use Rattle.std.specs.Prelude.{min}
use Rattle.sequences.specs.Sequence.{too_deep}
use Rattle.machine.specs.declared.flush.Flush.TheVariants.{Status}
use Rattle.runs.specs.Running.{Kept}
use Rattle.runs.proofs.FlushLaws.{FlushAt}
use Rattle.runs.proofs.running.Running.flush.Given as goal

abbrev pub invariant-loop-status : goal.invariant-loop-status
invariant-loop-status l =
    Kept l.initial.self l.self
    × ((old olds : List ℕ) → FlushAt old olds Status l.initial.self → FlushAt old olds Status l.self)
    × (too_deep l.fit ≡ false) × (l.self.spot.used ≡ l.self.spot.made) × (l.end ≡ min l.self.budget (length l.self.script.now))

abbrev pub decreases-loop-status : goal.decreases-loop-status
decreases-loop-status l = l.self.budget - l.self.spot.made
