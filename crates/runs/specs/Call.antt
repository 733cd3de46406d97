-- The other calls as runs: the machine of a call (sequences `Call`), driven over its table of moves.
-- Assumes nothing.
use Rattle.std.specs.Prelude.{ℕ, cond, List, length, Err}
use Rattle.sequences.specs.declared.access.RunError.TheVariants.{Limits}
use Rattle.sequences.specs.declared.call.Call.{Call}
use Rattle.sequences.specs.declared.driver.Lpspi.{Lpspi}
use Rattle.sequences.specs.declared.sequence.Sequence.{Sequence}
use Rattle.sequences.specs.Sequence.{sequence_start}
use Rattle.sequences.specs.Access.{number_of}
use Rattle.sequences.specs.Call.{call_start, call_access, call_after}
use Rattle.runs.specs.declared.call.Called.{Called}
use Rattle.runs.specs.declared.result.RunResult.{RunResult}
use Rattle.runs.specs.Run.{State, limits, run, start, no_words, ending_of, log_over}

-- after at most `budget` accesses of a call
abbrev pub call_states : Call → Lpspi → List ℕ → ℕ → State Sequence
call_states c d script budget = run (call_access c) (call_after c) no_words script budget (start (call_start c d))

-- what a call comes to, document 01's number of it, and its log
pub record CallLeft : Type 0 where
  pub called : Called
  pub number : ℕ
  pub log : List ℕ

abbrev pub call_left : Called → List ℕ → CallLeft
call_left r log = record { called = r; number = number_of r.ending; log = log }

-- a run that came to the state s
unfoldable pub called_by : Call → List ℕ → State Sequence → CallLeft
called_by c old s =
    call_left
    (record { ending = ending_of (call_access c s.machine); accesses = length s.log; answers = s.used; sequence = s.machine })
    (log_over old s.log)

-- A CALL: number 5, all as found, or the run from the call's start
unfoldable pub call_run : Lpspi → Call → ℕ → List ℕ → List ℕ → CallLeft
call_run d c budget script log =
    cond (limits budget log) (call_left (record { ending = Err Limits; accesses = 0; answers = 0; sequence = sequence_start d }) log)
    (called_by c log (call_states c d script budget))

-- its result: the driver value is the sequence's
abbrev pub called_result : Called → RunResult
called_result r = record { ending = r.ending; accesses = r.accesses; answers = r.answers; driver = r.sequence.driver }
