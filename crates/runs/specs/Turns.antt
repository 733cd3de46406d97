-- Whole turns of a transfer as the code makes them: a poll's three reads and its word. Only private contracts cite what stands here.
-- Assumes nothing.
use Rattle.std.specs.Prelude.{ℕ, ◌+◌, ◌≤◌, Bool, cond, List, ◌≡◌, length, get_or, Option, None, Some, Result, Ok, Err}
use Rattle.manual.specs.declared.Register.TheVariants.{SR, PARAM, FSR}
use Rattle.manual.specs.Manual.{offset_of}
use Rattle.words.specs.declared.transaction.Direction.{Direction}
use Rattle.words.specs.declared.transaction.Direction.TheVariants.{Tx, Rx}
use Rattle.sequences.specs.declared.sequence.Sequence.{Sequence}
use Rattle.machine.specs.declared.transfer.Transfer.{Transfer}
use Rattle.machine.specs.declared.poll.Polled.{Polled}
use Rattle.machine.specs.declared.poll.Polled.TheVariants.{Ready, Unready}
use Rattle.machine.specs.Poll.{whole}
use Rattle.machine.specs.Transfer.{at_start, turn_at, due_access, resumed}
use Rattle.runs.specs.declared.drive.Spot.{Spot}
use Rattle.runs.specs.declared.running.Running.{Running}
use Rattle.runs.specs.declared.fast.turns.Plan.{Plan}
use Rattle.runs.specs.declared.fast.turns.Turn.{Turn}
use Rattle.runs.specs.Run.{put}
use Rattle.runs.specs.Running.{At, Still}

abbrev pub spot : ℕ → ℕ → ℕ → Spot
spot made used received = record { made = made; used = used; received = received }

-- the three pairs of a poll
abbrev pub put_poll : List ℕ → ℕ → ℕ → ℕ → ℕ → List ℕ
put_poll log made status param counts =
    put (put (put log made (offset_of SR) status) (made + 1) (offset_of PARAM) param) (made + 2) (offset_of FSR) counts

abbrev pub ready_or : Bool → Polled
ready_or b = cond b Ready Unready

-- a poll of a side was made whole and comes to x; the access after it fits, too
pub record Whole (d : Direction) (r s : Running) (x : Polled) : Type 0 where
  pub room : r.spot.made + 4 ≤ r.budget
  pub answers : r.spot.used + 4 ≤ length r.script.now
  pub shown : whole d (get_or r.script.now r.spot.used 0) (get_or r.script.now (r.spot.used + 1) 0)
      (get_or r.script.now (r.spot.used + 2) 0)
      ≡ x
  pub moved : s.spot ≡ spot (r.spot.made + 3) (r.spot.used + 3) r.spot.received
  pub logged : s.log.now
      ≡ put_poll r.log.now r.spot.made (get_or r.script.now r.spot.used 0) (get_or r.script.now (r.spot.used + 1) 0)
      (get_or r.script.now (r.spot.used + 2) 0)
  pub placed : s.received_words.now ≡ r.received_words.now

abbrev pub Looked : Direction → Running → Running → Option Bool → Type 0
Looked d r s None = Still r s
Looked d r s (Some b) = Whole d r s (ready_or b)

abbrev pub turn : Direction → ℕ → Turn
turn side sent = record { side = side; sent = sent }

-- whose turn it is: the receiving side's after the words that were sent, or the one that is left
abbrev pub turn_sent : Result ℕ Turn → Turn
turn_sent (Ok sent) = turn Rx sent
turn_sent (Err t) = t

abbrev pub turn_received : ℕ → Result (Unit {0}) Turn → Turn
turn_received sent (Ok x) = turn Tx sent
turn_received sent (Err t) = t

abbrev pub turn_next : Result ℕ Turn → Turn
turn_next (Ok sent) = turn Tx sent
turn_next (Err t) = t

-- from the turn t to the turn u the code stays with the run of every transfer of these counts
abbrev pub Onward : Plan → Turn → Running → Turn → Running → Type 0
Onward p t r u s =
    (m : Transfer) (old olds : List ℕ) → m.work.send ≡ p.send → m.work.receive ≡ p.receive
    → At due_access resumed old olds m (turn_at t.side t.sent r.spot.received m) r
    → At due_access resumed old olds m (turn_at u.side u.sent s.spot.received m) s

-- the waiting for a place for the command, and the command, of a transfer that stands at its start, whatever it has to send and receive
abbrev pub command_out : Option (Unit {0}) → Transfer → Transfer
command_out None t = t
command_out (Some x) t = turn_at Tx 0 0 t

abbrev pub Waited : ℕ → Running → Option (Unit {0}) → Running → Type 0
Waited command r x s =
    (q : Sequence) (n m : ℕ) (old olds : List ℕ)
    → At due_access resumed old olds (at_start q command n m) (at_start q command n m) r
    → At due_access resumed old olds (at_start q command n m) (command_out x (at_start q command n m)) s
