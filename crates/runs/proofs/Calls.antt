-- A flush and the other calls: never more accesses than the budget, by the count in the result.
-- Assumes nothing.
use Prim.Native.Nat.{ℕ, ◌≤◌}
use mathlib.Core.Bool.{Bool, true, false, cond}
use mathlib.Core.List.{List}
use native.Mathlib.Omega.{arith}
use Rattle.sequences.specs.declared.call.Call.{Call}
use Rattle.sequences.specs.declared.driver.Lpspi.{Lpspi}
use Rattle.machine.specs.declared.flush.Flush.TheVariants.{Status}
use Rattle.sequences.specs.Call.{call_start, call_access, call_after}
use Rattle.machine.specs.Flush.{flush_access, flushed}
use Rattle.sequences.specs.Sequence.{sequence_start}
use Rattle.runs.specs.Run.{limits, over_limits, ran, start, no_words}
use Rattle.runs.specs.Flush.{flush_states, flush_run}
use Rattle.runs.specs.Call.{call_left, call_states, called_by, call_run}
use Rattle.std.specs.Prelude.{Err}
use Rattle.sequences.specs.declared.access.RunError.TheVariants.{Limits}
use Rattle.runs.proofs.RunLaws.{run_log}

pub flush_within : (d : Lpspi) (budget : ℕ) (script log : List ℕ) → (flush_run d budget script log).result.accesses ≤ budget
flush_within d budget script log = by_limits (limits budget log)
  where
    by_limits : (b : Bool) → (cond b (over_limits d log) (ran flush_access d log (flush_states script budget))).result.accesses ≤ budget
    by_limits true = omega arith
    by_limits false = omega (arith, run_log flush_access flushed no_words script budget (start Status))

pub call_within : (d : Lpspi) (c : Call) (budget : ℕ) (script log : List ℕ) → (call_run d c budget script log).called.accesses ≤ budget
unfolding call_run called_by
call_within d c budget script log = by_limits (limits budget log)
  where
    by_limits : (b : Bool)
        → (cond b (call_left (record { ending = Err Limits; accesses = 0; answers = 0; sequence = sequence_start d }) log)
        (called_by c log (call_states c d script budget))).called.accesses
        ≤ budget
    by_limits true = omega arith
    by_limits false = omega (arith, run_log (call_access c) (call_after c) no_words script budget (start (call_start c d)))
