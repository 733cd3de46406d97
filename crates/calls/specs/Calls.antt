-- The other calls of document 01 as runs: `call_run` (runs `Call`) over the call's table (sequences `Call`).
-- Assumes nothing.
use Rattle.std.specs.Prelude.{ℕ, cond, List, eqb, is_ok, Err}
use Rattle.words.specs.Clock.{clocked}
use Rattle.sequences.specs.declared.access.RunError.TheVariants.{ZeroClock}
use Rattle.sequences.specs.declared.call.Call.TheVariants.{SetClockConfigs}
use Rattle.sequences.specs.declared.driver.Lpspi.{Lpspi}
use Rattle.sequences.specs.declared.sequence.Sequence.{Sequence}
use Rattle.runs.specs.declared.result.RunResult.{RunResult}
use Rattle.runs.specs.Run.{Left, left, limits, unmoved, over_limits}
use Rattle.runs.specs.Call.{CallLeft, called_result, call_run}

-- what a call leaves that has no value of its own
abbrev pub ran_call : CallLeft → Left
ran_call c = left (called_result c.called) c.log

-- what a call leaves that has one
pub record Answered (A : Type 0) : Type 0 where
  pub run : Left
  pub value : A

abbrev pub value_left : {A : Type 0} → RunResult → A → List ℕ → Answered A
value_left r v log = record { run = left r log; value = v }

-- its value comes with Ok; refused or stopped it is `none`
abbrev pub valued : {A : Type 0} → (Sequence → A) → A → CallLeft → Answered A
valued value none c =
    value_left (called_result c.called) (cond (is_ok c.called.ending) (value c.called.sequence) none) c.log

-- clock entry, 6: source or wanted clock is 0; all as found
abbrev pub clock_refused : Lpspi → List ℕ → Left
clock_refused d log = left (unmoved d (Err ZeroClock)) log

-- number 5 comes before it
abbrev pub set_clock_hz_run : Lpspi → ℕ → ℕ → ℕ → List ℕ → List ℕ → Left
set_clock_hz_run d source clock budget script log =
    cond (limits budget log) (over_limits d log)
    (cond (eqb (clocked source clock).number 0)
    (ran_call (call_run d (SetClockConfigs (clocked source clock).configs) budget script log))
    (clock_refused d log))
