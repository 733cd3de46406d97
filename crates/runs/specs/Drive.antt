-- The run of a transfer over FIFO words, the border between this crate and those above it: what `run_words`, `word_in` and `keep`
-- promise. No contract of a call of document 01 cites it: there the words are elements (transfers `Transfers`).
-- Assumes nothing.
use Rattle.std.specs.Prelude.{ℕ, ◌+◌, min, cond, ◌&&◌, List, ltb, length, get_or, set, Err}
use Rattle.words.specs.Width.{width_bits}
use Rattle.words.specs.Word.{laid}
use Rattle.words.specs.Buffer.{cut_word}
use Rattle.sequences.specs.declared.access.Access.{Access}
use Rattle.sequences.specs.declared.access.Access.TheVariants.{Read, Write, Send, Receive, Done}
use Rattle.sequences.specs.declared.driver.Lpspi.{Lpspi}
use Rattle.machine.specs.declared.transfer.Transfer.{Transfer}
use Rattle.sequences.specs.declared.access.RunError.TheVariants.{Limits}
use Rattle.sequences.specs.Access.{number_of}
use Rattle.machine.specs.Transfer.{due_access, resumed}
use Rattle.runs.specs.declared.drive.Frame.{Frame}
use Rattle.runs.specs.declared.drive.Driven.{Driven}
use Rattle.runs.specs.declared.result.RunResult.{RunResult}
use Rattle.runs.specs.Run.{State, start, run, limits, ending_of, log_over}

-- the word that is sent from place i: as it was packed at the start, or, in place, as it was received there, cut to its elements
abbrev pub word_in : Frame → List ℕ → List ℕ → ℕ → ℕ → ℕ
word_in f send words got i =
    cond (f.inplace && ltb i got) (cut_word (width_bits f.width) f.total i (get_or words i 0)) (get_or send i 0)

-- a received word is stored after the `got` words before it, if there is a place
abbrev pub got_after : Access → ℕ → ℕ → ℕ
got_after (Read r) got places = got
got_after (Write r w) got places = got
got_after (Send i) got places = got
got_after (Receive i) got places = cond (ltb got places) (got + 1) got
got_after (Done e) got places = got

abbrev pub words_after : Access → List ℕ → ℕ → ℕ → List ℕ
words_after (Read r) words got v = words
words_after (Write r w) words got v = words
words_after (Send i) words got v = words
words_after (Receive i) words got v = set words got v
words_after (Done e) words got v = words

-- the words received, of which there is a place for so many
abbrev pub stored : List ℕ → List ℕ → ℕ
stored rs olds = min (length rs) (length olds)

abbrev pub sent_from : Frame → List ℕ → List ℕ → List ℕ → ℕ → ℕ
sent_from f send olds rs i = word_in f send (laid rs olds) (stored rs olds) i

module _ (f : Frame) (script send : List ℕ) where
  -- the run from the transfer t, `olds` the places for received words as found
  abbrev pub words_states : List ℕ → Transfer → ℕ → State Transfer
  words_states olds t n = run due_access resumed (sent_from f send olds) script n (start t)

-- what it comes to, document 01's number of it, the log and the received words
pub record DrivenLeft : Type 0 where
  pub driven : Driven
  pub number : ℕ
  pub log : List ℕ
  pub words : List ℕ

abbrev pub driven_left : Driven → List ℕ → List ℕ → DrivenLeft
driven_left r log words = record { driven = r; number = number_of r.ending; log = log; words = words }

unfoldable pub driven_by : List ℕ → List ℕ → State Transfer → DrivenLeft
driven_by old olds s =
    driven_left
    (record {
      ending = ending_of (due_access s.machine);
      spot = record { made = length s.log; used = s.used; received = stored s.received olds };
    })
    (log_over old s.log)
    (laid s.received olds)

abbrev pub result_of : Lpspi → Driven → RunResult
result_of d r = record { ending = r.ending; accesses = r.spot.made; answers = r.spot.used; driver = d }

-- A TRANSFER OVER FIFO WORDS: number 5, all as found, or the run of t from where it stands
unfoldable pub words_run : Transfer → Frame → ℕ → List ℕ → List ℕ → List ℕ → List ℕ → DrivenLeft
words_run t f budget script send log olds =
    cond (limits budget log) (driven_left (record { ending = Err Limits; spot = record { made = 0; used = 0; received = 0 } }) log olds)
    (driven_by log olds (words_states f script send olds t budget))
