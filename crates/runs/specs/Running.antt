-- A run as the code holds it. Only private contracts cite what stands here.
-- Assumes nothing.
use Rattle.std.specs.Prelude.{ℕ, ◌+◌, ◌*◌, ◌<◌, List, ◌≡◌, length, get_or}
use Rattle.words.specs.Word.{laid}
use Rattle.sequences.specs.declared.access.Access.{Access}
use Rattle.sequences.specs.Access.{Ending}
use Rattle.runs.specs.declared.drive.Frame.{Frame}
use Rattle.runs.specs.declared.drive.Spot.{Spot}
use Rattle.runs.specs.declared.running.Running.{Running}
use Rattle.runs.specs.Run.{State, start, run, code_of, value_of, uses_of, answer_of, ending_of, log_over, put}
use Rattle.runs.specs.Drive.{word_in, got_after, words_after, stored, sent_from}

module _ {M : Type 0} (next : M → Access) (resume : M → ℕ → M) where
  module _ (f : Frame) (script send : List ℕ) where
    -- the run from the machine t, `olds` the places for received words as found
    abbrev pub states : List ℕ → M → ℕ → State M
    states olds t n = run next resume (sent_from f send olds) script n (start t)

    -- after `made` accesses of it the code holds the machine u, the spot s, this log and these words
    pub record Stands (old olds : List ℕ) (t u : M) (s : Spot) (log words : List ℕ) : Type 0 where
      pub machine : (states olds t s.made).machine ≡ u
      pub used : (states olds t s.made).used ≡ s.used
      pub pairs : length (states olds t s.made).log ≡ s.made
      pub got : stored (states olds t s.made).received olds ≡ s.received
      pub size : length log ≡ length old
      pub held : log ≡ log_over old (states olds t s.made).log
      pub placed : words ≡ laid (states olds t s.made).received olds

  -- what is held is the state of the run from the machine t, and the machine is u there
  abbrev pub At : List ℕ → List ℕ → M → M → Running → Type 0
  At old olds t u r = Stands r.frame r.script.now r.sent_words.now old olds t u r.spot r.log.now r.received_words.now

  -- and no further access is made, so that it ends with e
  pub record Ended (old olds : List ℕ) (t u : M) (e : Ending) (r : Running) : Type 0 where
    pub here : At old olds t u r
    pub last : states r.frame r.script.now r.sent_words.now olds t r.budget
        ≡ states r.frame r.script.now r.sent_words.now olds t r.spot.made
    pub ending : e ≡ ending_of (next u)

-- it goes on with the same, and into the same log and buffer
pub record Kept (r s : Running) : Type 0 where
  pub frame : s.frame ≡ r.frame
  pub budget : s.budget ≡ r.budget
  pub script : s.script.now ≡ r.script.now
  pub sent_words : s.sent_words.now ≡ r.sent_words.now
  pub log : s.log.ghost_name ≡ r.log.ghost_name
  pub received_words : s.received_words.ghost_name ≡ r.received_words.ghost_name

-- the access a was made, and the machine is told v
pub record Accessed (a : Access) (r s : Running) (v : ℕ) : Type 0 where
  pub told : v ≡ answer_of a (get_or r.script.now r.spot.used 0)
  pub fits : 2 * r.spot.made + 1 < length r.log.now
  pub made : s.spot.made ≡ r.spot.made + 1
  pub used : s.spot.used ≡ r.spot.used + uses_of a
  pub received : s.spot.received ≡ got_after a r.spot.received (length r.received_words.now)
  pub size : length s.log.now ≡ length r.log.now
  pub logged : s.log.now
      ≡ put r.log.now r.spot.made (code_of a)
      (value_of (word_in r.frame r.sent_words.now r.received_words.now r.spot.received) a (get_or r.script.now r.spot.used 0))
  pub placed : s.received_words.now
      ≡ words_after a r.received_words.now r.spot.received (get_or r.script.now r.spot.used 0)

-- nothing was done
pub record Still (r s : Running) : Type 0 where
  pub moved : s.spot ≡ r.spot
  pub logged : s.log.now ≡ r.log.now
  pub placed : s.received_words.now ≡ r.received_words.now
