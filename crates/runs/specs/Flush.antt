-- `flush` as a run.
-- Assumes nothing.
use Rattle.std.specs.Prelude.{ℕ, cond, List}
use Rattle.sequences.specs.declared.driver.Lpspi.{Lpspi}
use Rattle.machine.specs.declared.flush.Flush.{Flush}
use Rattle.machine.specs.declared.flush.Flush.TheVariants.{Status}
use Rattle.machine.specs.Flush.{flush_access, flushed}
use Rattle.runs.specs.Run.{State, Left, limits, over_limits, run, start, no_words, ran}

-- after at most `budget` accesses of a flush
abbrev pub flush_states : List ℕ → ℕ → State Flush
flush_states script budget = run flush_access flushed no_words script budget (start Status)

-- the call: number 5, or the run; the driver value is as it was
abbrev pub flush_run : Lpspi → ℕ → List ℕ → List ℕ → Left
flush_run d budget script log =
    cond (limits budget log) (over_limits d log) (ran flush_access d log (flush_states script budget))
