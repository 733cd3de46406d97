-- What the code holds of an end, between its entry and its answer.
-- Assumes nothing.
use Rattle.std.specs.Prelude.{ℕ, ◌<◌, true, false, cond, List, [], ◌∷◌, ◌≡◌, Result, length, take, replicate}
use Rattle.manual.specs.declared.Cr.TheVariants.{RRF, RTF}
use Rattle.manual.specs.declared.Field.TheVariants.{Cr}
use Rattle.manual.specs.Manual.{set_all}
use Rattle.sequences.specs.declared.access.Access.{Access}
use Rattle.sequences.specs.declared.access.Access.TheVariants.{Read, Write, Send, Receive, Done}
use Rattle.machine.specs.declared.flush.Flush.{Flush}
use Rattle.machine.specs.declared.flush.Flush.TheVariants.{Status}
use Rattle.machine.specs.declared.transfer.Transfer.{Transfer}
use Rattle.machine.specs.Flush.{flushed}
use Rattle.machine.specs.Transfer.{due_access}
use Rattle.runs.specs.Drive.{word_in}
use Rattle.runs.specs.Run.{ended, received_after}
use Rattle.words.specs.Buffer.{pack_words}
use Rattle.words.specs.Width.{width_bits}
use Rattle.words.specs.Word.{laid}
use Rattle.words.specs.declared.transaction.Direction.TheVariants.{Tx}
use Rattle.transfers.specs.declared.begin.Ways.TheVariants.{Both}
use Rattle.transfers.specs.Transfers.{begun}
use Rattle.transfers.specs.Begin.{length_plan}
use Rattle.agreement.specs.Start.{Start, started, total, accepted, unfit, Job, job}
use Rattle.agreement.specs.declared.register.Role.TheVariants.{Commands as commands}
use Rattle.agreement.specs.End.{Wire, raised, word_gone, role_of, fresh_wire, fresh_registers}
use Rattle.agreement.specs.End.{End, end, end_access, wire_after, registers_after}
use Rattle.agreement.specs.Events.{Pair, pair, fresh_pair, pair_after}
use Rattle.agreement.specs.Codes.{events_of}
use Rattle.bus.specs.declared.begin.Entrant.{Entrant}
use Rattle.bus.specs.declared.pair.Peers.{Peers}
use Rattle.bus.specs.declared.peer.Link.{Link}
use Rattle.bus.specs.declared.peer.Peer.{Peer}
use Rattle.bus.specs.declared.port.Port.{Port}
use Rattle.bus.specs.declared.trial.Unfit.{Unfit}
use Rattle.bus.specs.View.{wire_of}
use Rattle.bus.specs.Trial.{start_of, unpaired, trial_number}

-- an end as the code holds it
abbrev pub end_of : Peer → End
end_of p = end p.station.transfer p.station.flush (take p.received p.words) (wire_of p.station.port) p.registers

-- what an end goes by
abbrev pub job_of : Link → Job
job_of l = record { exponent = l.exponent.value; words = λ rs i. word_in l.frame l.send rs (length rs) i }

-- queues and flags once a clock has taken the first of the words to be sent, if there is one
abbrev pub leaving : List ℕ → Wire → Wire
leaving [] w = w
leaving (v ∷ words) w = word_gone w

-- of the antenna, where a made-up 0 sets T
abbrev pub replying : List ℕ → Wire → Wire
replying [] w = raised Tx w
replying (v ∷ words) w = word_gone w

-- the flush after an access of its end that was answered v
abbrev pub flush_next : Transfer → Flush → ℕ → Flush
flush_next t f v = cond (ended (due_access t)) (flushed f v) f

-- what CR holds of a value written: RTF and RRF read as 0
abbrev pub control_held : ℕ → ℕ
control_held v = set_all ((Cr RTF, 0) ∷ (Cr RRF, 0) ∷ []) v

-- an access that writes a command finds no word queued
abbrev pub Idle : Access → Port → Type 0
Idle (Read r) p = Unit {0}
Idle (Write r v) p = role_of r ≡ commands → p.transmit ≡ []
Idle (Send i) p = Unit {0}
Idle (Receive i) p = Unit {0}
Idle (Done x) p = Unit {0}

-- what an access needs: a place for the word that it receives, no word before the command that it writes
pub record Ready (a : Access) (p : Peer) : Type 0 where
  pub place : (i : ℕ) → a ≡ Receive i → p.received < 128
  pub idle : Idle a p.station.port

-- so of the access that is due
abbrev pub Provided : Peer → Type 0
Provided p = Ready (end_access p.station.transfer p.station.flush) p

-- an end after an access that was answered v, its machines not told yet
abbrev pub made : Job → Access → ℕ → End → End
made j a v x =
    let word = j.words x.received in
    end x.transfer x.flush (received_after a v x.received) (wire_after j.exponent word a x.wire) (registers_after word a x.registers)

-- the pair
abbrev pub pair_of : Peers → Pair
pair_of x = pair (end_of x.gate) (end_of x.antenna)

-- an end of a board that has made no access
abbrev pub fresh_of : Entrant → End
fresh_of b =
    let k = width_bits b.board.width in
    end (begun k b.board.driver (length_plan k Both b.total)) Status [] fresh_wire fresh_registers

-- what it goes by
abbrev pub entrant_job : Entrant → Job
entrant_job b =
    record {
      exponent = b.board.exponent;
      words =
          λ rs i.
          word_in (record { width = b.board.width; total = b.total; inplace = b.board.inplace }) b.send rs (length rs) i;
    }

-- what a board goes by: its exponent, and its words where they are sent
pub record JobFits (s : Start) (j : Job) : Type 0 where
  pub exponent : j.exponent ≡ (job s).exponent
  pub words : accepted s ≡ true → (rs : List ℕ) (i : ℕ) → j.words rs i ≡ (job s).words rs i

-- two boards that fit, each with what it goes by
pub record Linked (g a : Start) (gate_job antenna_job : Job) : Type 0 where
  pub fits : unfit g a ≡ false
  pub gate : JobFits g gate_job
  pub antenna : JobFits a antenna_job

-- a board that enters a trial of elements of k bits with these buffers: its total length, and the words packed of what it starts with
pub record Prepared (k : ℕ) (b : Entrant) (read write : List ℕ) : Type 0 where
  pub length : b.total ≡ total (start_of b.board read write)
  pub packed : b.send
      ≡ laid (pack_words b.board.driver.order k b.total (started (start_of b.board read write))) (replicate 128 0)

-- both ends after the events; boards that are refused stay at fresh
abbrev pub ends_of : ℕ → Start → Start → List ℕ → Pair
ends_of k s t events = cond (unpaired k s t) (fresh_pair s t) (pair_after s t (events_of events))

-- what the run over FIFO words leaves of them
pub record Ran (k : ℕ) (s t : Start) (events : List ℕ) (r : Result (Unit {0}) Unfit) (x : Peers) : Type 0 where
  pub number : trial_number r ≡ cond (unpaired k s t) 9 0
  pub ends : pair_of x ≡ ends_of k s t events
