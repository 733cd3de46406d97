-- What `set_clock_hz` has done where it answers 0, by its log and the next driver value (document 02, No. 13: "the two SCKDIV values of the
-- first clock entry"). Only laws cite it.
-- Assumes nothing.
use Rattle.std.specs.Prelude.{ℕ, zero, suc, ◌+◌, cond, List, [], ◌∷◌, ◌++◌, ◌≡◌, eqb, get_or, drop}
use Rattle.manual.specs.declared.Register.{Register}
use Rattle.manual.specs.declared.Register.TheVariants.{CCR}
use Rattle.manual.specs.Manual.{offset_of}
use Rattle.words.specs.Clock.{clocked}
use Rattle.words.specs.Tolerance.{word_for}
use Rattle.sequences.specs.declared.driver.Lpspi.{Lpspi}
use Rattle.sequences.specs.Driver.{with_clock}
use Rattle.runs.specs.Run.{write_mark}

-- the value of an access, if it is a write to the register r
abbrev pub write_to : Register → ℕ → ℕ → List ℕ
write_to r code value = cond (eqb code (write_mark + offset_of r)) (value ∷ []) []

-- what a log's n accesses, two places each, write to r
abbrev pub writes_to : Register → ℕ → List ℕ → List ℕ
writes_to r zero log = []
writes_to r (suc n) log = write_to r (get_or log 0 0) (get_or log 1 0) ++ writes_to r n (drop 2 log)

-- from the driver value d: CCR is written once, with the word that the clock entry answers, and the next driver value keeps its DBT and
-- SCKDIV
pub record ClockSet (d : Lpspi) (source clock : ℕ) (next : Lpspi) (accesses : ℕ) (log : List ℕ) : Type 0 where
  pub ccr : writes_to CCR accesses log ≡ word_for source clock ∷ []
  pub driver : next ≡ with_clock (clocked source clock).configs d
