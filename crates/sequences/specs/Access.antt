-- How a run ends, and document 01's number for each ending ("Results by place of check").
-- Assumes nothing.
use Rattle.std.specs.Prelude.{ℕ, Result, Ok, Err}
use Rattle.words.specs.Answer.{zero_clock_number}
use Rattle.words.specs.Command.{error_number}
use Rattle.sequences.specs.declared.access.RunError.{RunError}
use Rattle.sequences.specs.declared.access.RunError.TheVariants.{Driver, Stopped, Limits, ZeroClock, FifoExponent}

-- the alias of the source
abbrev pub Ending : Type 0
Ending = Result (Unit {0}) RunError

abbrev pub run_error_number : RunError → ℕ
run_error_number (Driver e) = error_number e
run_error_number Stopped = 4
run_error_number Limits = 5
run_error_number ZeroClock = zero_clock_number
run_error_number FifoExponent = 7

abbrev pub number_of : Ending → ℕ
number_of (Ok u) = 0
number_of (Err e) = run_error_number e
