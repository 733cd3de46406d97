-- A run (document 01, Results by place of check): a machine, driven from a script under a budget, with its log. It is one definition
-- for every call: the machine M says which access is due (`next`) and goes on by its answer (`resume`).
-- Assumes nothing.
use Rattle.std.specs.Prelude.{ℕ, zero, suc, ◌+◌, ◌*◌, Bool, true, false, cond, ◌||◌, leb, ltb, Err}
use Rattle.std.specs.Prelude.{List, [], ◌∷◌, ◌++◌, length, get_or, set, drop}
use Rattle.manual.specs.declared.Register.TheVariants.{TDR, RDR}
use Rattle.manual.specs.Manual.{offset_of}
use Rattle.sequences.specs.declared.access.Access.{Access}
use Rattle.sequences.specs.declared.access.Access.TheVariants.{Read, Write, Send, Receive, Done}
use Rattle.sequences.specs.Access.{Ending}
use Rattle.sequences.specs.declared.access.RunError.TheVariants.{Stopped, Limits}
use Rattle.sequences.specs.declared.driver.Lpspi.{Lpspi}
use Rattle.sequences.specs.Access.{number_of}
use Rattle.runs.specs.declared.result.RunResult.{RunResult}

-- entry of a run, 5: budget over 8,000, or log shorter than twice the budget
abbrev pub limits : ℕ → List ℕ → Bool
limits budget log = ltb 8000 budget || ltb (length log) (2 * budget)

-- an access as the log has it: the manual's byte offset, plus 1000 hexadecimal for a write; then the value
pub record Logged : Type 0 where
  pub at : ℕ
  pub value : ℕ

abbrev pub flat : List Logged → List ℕ
flat [] = []
flat (a ∷ l) = a.at ∷ a.value ∷ flat l

-- what a write adds to its offset
abbrev pub write_mark : ℕ
write_mark = 0x1000

abbrev pub code_of : Access → ℕ
code_of (Read r) = offset_of r
code_of (Write r v) = write_mark + offset_of r
code_of (Send i) = write_mark + offset_of TDR
code_of (Receive i) = offset_of RDR
code_of (Done e) = 0

-- the value: the answer v of a read, what is written, or the FIFO word that is sent
abbrev pub value_of : (ℕ → ℕ) → Access → ℕ → ℕ
value_of word (Read r) v = v
value_of word (Write r w) v = w
value_of word (Send i) v = word i
value_of word (Receive i) v = v
value_of word (Done e) v = 0

-- a read uses one answer, and the machine is told it
abbrev pub uses_of : Access → ℕ
uses_of (Read r) = 1
uses_of (Write r w) = 0
uses_of (Send i) = 0
uses_of (Receive i) = 1
uses_of (Done e) = 0

abbrev pub answer_of : Access → ℕ → ℕ
answer_of (Read r) v = v
answer_of (Write r w) v = 0
answer_of (Send i) v = 0
answer_of (Receive i) v = v
answer_of (Done e) v = 0

-- the FIFO words received so far
abbrev pub received_after : Access → ℕ → List ℕ → List ℕ
received_after (Read r) v rs = rs
received_after (Write r w) v rs = rs
received_after (Send i) v rs = rs
received_after (Receive i) v rs = rs ++ (v ∷ [])
received_after (Done e) v rs = rs

-- no access is due any more
abbrev pub ended : Access → Bool
ended (Read r) = false
ended (Write r w) = false
ended (Send i) = false
ended (Receive i) = false
ended (Done e) = true

-- no access can be made: none is due, or a read is due and the script is used up
abbrev pub halted : Access → ℕ → ℕ → Bool
halted (Read r) used answers = leb answers used
halted (Write r w) used answers = false
halted (Send i) used answers = false
halted (Receive i) used answers = leb answers used
halted (Done e) used answers = true

-- f, n times
unfoldable pub times {ℓ} : {A : Type ℓ} → (A → A) → ℕ → A → A
times f zero s = s
times f (suc n) s = times f n (f s)

-- where a run stands
pub record State (M : Type 0) : Type 0 where
  pub machine : M
  pub used : ℕ
  pub log : List Logged
  pub received : List ℕ

abbrev pub start : {M : Type 0} → M → State M
start m = record { machine = m; used = 0; log = []; received = [] }

-- `words` gives the FIFO word that is sent at a place, by the words received so far
module _ {M : Type 0} (next : M → Access) (resume : M → ℕ → M) (words : List ℕ → ℕ → ℕ) (script : List ℕ) where
  -- after the access a
  unfoldable pub after_access : Access → State M → State M
  after_access a s =
      let v = get_or script s.used 0 in
      record {
        machine = resume s.machine (answer_of a v);
        used = s.used + uses_of a;
        log = s.log ++ (record { at = code_of a; value = value_of (words s.received) a v } ∷ []);
        received = received_after a v s.received;
      }

  -- the next access, if one can be made
  unfoldable pub step : State M → State M
  step s = cond (halted (next s.machine) s.used (length script)) s (after_access (next s.machine) s)

  -- at most so many accesses
  abbrev pub run : ℕ → State M → State M
  run = times step

-- of calls that send no FIFO word
abbrev pub no_words : List ℕ → ℕ → ℕ
no_words received i = 0

-- how a run ended: what the machine answers, or Stopped where an access was due
abbrev pub ending_of : Access → Ending
ending_of (Read r) = Err Stopped
ending_of (Write r w) = Err Stopped
ending_of (Send i) = Err Stopped
ending_of (Receive i) = Err Stopped
ending_of (Done e) = e

-- what a call leaves: its result, document 01's number of it, and its log
pub record Left : Type 0 where
  pub result : RunResult
  pub number : ℕ
  pub log : List ℕ

abbrev pub left : RunResult → List ℕ → Left
left r log = record { result = r; number = number_of r.ending; log = log }

-- of a call that made no access
abbrev pub unmoved : Lpspi → Ending → RunResult
unmoved d e = record { ending = e; accesses = 0; answers = 0; driver = d }

-- number 5: all as found
abbrev pub over_limits : Lpspi → List ℕ → Left
over_limits d log = left (unmoved d (Err Limits)) log

-- log places past the pairs keep their contents
abbrev pub log_over : List ℕ → List Logged → List ℕ
log_over old l = flat l ++ drop (2 * length l) old

-- a run that came to the state s; the driver value is as it was
abbrev pub ran : {M : Type 0} → (M → Access) → Lpspi → List ℕ → State M → Left
ran next d log s =
    left (record { ending = ending_of (next s.machine); accesses = length s.log; answers = s.used; driver = d })
    (log_over log s.log)

-- the pair of an access, put into a log (private contracts cite it)
abbrev pub put : List ℕ → ℕ → ℕ → ℕ → List ℕ
put log made at value = set (set log (2 * made) at) (2 * made + 1) value
