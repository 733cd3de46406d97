-- The course of an end (document 01, The bus): its accesses over a list of events, each with its answer, and what it means that they are
-- those of its transfer's run and then of its flush's.
-- Assumes nothing.
use Rattle.std.specs.Prelude.{ℕ, ◌<◌, Bool, true, cond, List, [], ◌∷◌, ◌++◌, ◌≡◌, ltb, length}
use Rattle.sequences.specs.declared.access.Access.{Access}
use Rattle.machine.specs.declared.flush.Flush.TheVariants.{Status}
use Rattle.machine.specs.declared.transfer.Transfer.{Transfer}
use Rattle.machine.specs.Flush.{flush_access, flushed}
use Rattle.machine.specs.Transfer.{due_access, resumed}
use Rattle.runs.specs.Run.{Logged, write_mark, code_of, value_of, ended, start, run, no_words}
use Rattle.agreement.specs.declared.event.Event.{Event}
use Rattle.agreement.specs.declared.event.Event.TheVariants.{Step, Clock, Noise}
use Rattle.agreement.specs.declared.event.Side.{Side}
use Rattle.agreement.specs.declared.event.Side.TheVariants.{Gate, Antenna}
use Rattle.agreement.specs.Start.{Start, Job, job, transfer_of}
use Rattle.agreement.specs.End.{End, answer_to, end_access}
use Rattle.agreement.specs.Events.{Pair, at_side, happened, fresh_pair, pair_after}

-- ACCESSES

-- an access as a run's log has it, where `word` is what is sent at a place
abbrev pub entry : (ℕ → ℕ) → Access → ℕ → Logged
entry word a v = record { at = code_of a; value = value_of word a v }

-- "Step of an end, with a busy bit: its next access", with its answer. "A finished end does nothing"
abbrev pub accessed : Job → Bool → End → List Logged
accessed j busy x =
    let a = end_access x.transfer x.flush in
    cond (ended a) [] (entry (j.words x.received) a (answer_to j.exponent busy x.wire x.registers a) ∷ [])

module _ (g a : Job) where
  -- what an end hears of one event: only its own steps make accesses
  abbrev pub heard_by : Side → Pair → Event → List Logged
  heard_by Gate p (Step Gate busy) = accessed g busy p.gate
  heard_by Gate p (Step Antenna busy) = []
  heard_by Gate p Clock = []
  heard_by Gate p (Noise s d) = []
  heard_by Antenna p (Step Gate busy) = []
  heard_by Antenna p (Step Antenna busy) = accessed a busy p.antenna
  heard_by Antenna p Clock = []
  heard_by Antenna p (Noise s d) = []

  -- ITS LOG OVER A LIST OF EVENTS: all its accesses, in order
  unfoldable pub log_of : Side → Pair → List Event → List Logged
  log_of s p [] = []
  log_of s p (v ∷ vs) = heard_by s p v ++ log_of s (happened g a p v) vs

-- "the answers it has had": the values of the reads in a log (a write's offset has 1000 hexadecimal added)
abbrev pub answer_in : Logged → List ℕ
answer_in l = cond (ltb l.at write_mark) (l.value ∷ []) []

-- of a whole log, in order
unfoldable pub answers_in : List Logged → List ℕ
answers_in [] = []
answers_in (l ∷ log) = answer_in l ++ answers_in log

-- THE COURSE

-- the run of a machine from m, with the answers in `log` for its script, makes just the accesses of `log`, uses all the answers, and
-- comes to m', having received the FIFO words rs. It may make as many accesses as the log has: nothing else limits it
abbrev pub Makes : {M : Type 0} → (M → Access) → (M → ℕ → M) → (List ℕ → ℕ → ℕ) → M → List Logged → M → List ℕ → Type 0
Makes next resume words m log m' rs =
    run next resume words (answers_in log) (length log) (start m)
    ≡ record { machine = m'; used = length (answers_in log); log = log; received = rs }

-- "its next access, which is the one that the definitions of its transfer's run, and then of its flush's, make after the answers it has
-- had, with no limit on accesses". Of an end x that began with the transfer t, and the log of all its accesses
pub record Course (j : Job) (t : Transfer) (x : End) (log : List Logged) : Type 0 where
  pub transfer_log : List Logged
  pub flush_log : List Logged
  pub parts : log ≡ transfer_log ++ flush_log
  pub transfer : Makes due_access resumed j.words t transfer_log x.transfer x.received
  pub flush : Makes flush_access flushed no_words Status flush_log x.flush []
  -- "and then": the flush makes no access before the transfer has answered
  pub turn : 0 < length flush_log → ended (due_access x.transfer) ≡ true

-- OF EITHER END

-- what the end at a side starts with
abbrev pub start_at : Side → Start → Start → Start
start_at Gate g a = g
start_at Antenna g a = a

-- after a list of events from fresh
abbrev pub CourseOf : Side → Start → Start → List Event → Type 0
CourseOf s g a vs =
    Course (job (start_at s g a)) (transfer_of (start_at s g a)) (at_side s (pair_after g a vs))
    (log_of (job g) (job a) s (fresh_pair g a) vs)
