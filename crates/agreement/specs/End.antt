-- An end of the bus (document 01, The bus): its transfer and its flush, its queues, flags and registers, and what an access does to them.
-- Assumes nothing.
use Rattle.std.specs.Prelude.{ℕ, ◌/◌, ◌^◌, Bool, true, false, cond, ◌||◌, List, [], ◌∷◌, ◌++◌, eqb, leb, length, get_or, set, replicate}
use Rattle.manual.specs.declared.Cr.TheVariants.{RST, RTF, RRF}
use Rattle.manual.specs.declared.Field.TheVariants.{Cr, Sr, Fsr, Param}
use Rattle.manual.specs.declared.Fsr.TheVariants.{TXCOUNT, RXCOUNT}
use Rattle.manual.specs.declared.Param.TheVariants.{TXFIFO, RXFIFO}
use Rattle.manual.specs.declared.Register.{Register}
use Rattle.manual.specs.declared.Register.TheVariants.{PARAM, CR, SR, IER, DER, CFGR0, CFGR1, DMR0, DMR1}
use Rattle.manual.specs.declared.Register.TheVariants.{CCR, FCR, FSR, TCR, TDR, RSR, RDR}
use Rattle.manual.specs.declared.Sr.TheVariants.{TEF, REF, MBF}
use Rattle.manual.specs.Manual.{offset_of, read_field, set_all}
use Rattle.words.specs.declared.transaction.Direction.{Direction}
use Rattle.words.specs.declared.transaction.Direction.TheVariants.{Tx, Rx}
use Rattle.words.specs.Command.{flag_of}
use Rattle.sequences.specs.declared.access.Access.{Access}
use Rattle.sequences.specs.declared.access.Access.TheVariants.{Read, Write, Send, Receive, Done}
use Rattle.machine.specs.declared.flush.Flush.{Flush}
use Rattle.machine.specs.declared.flush.Flush.TheVariants.{Status}
use Rattle.machine.specs.declared.transfer.Transfer.{Transfer}
use Rattle.machine.specs.Flush.{flush_access, flushed}
use Rattle.machine.specs.Transfer.{due_access, resumed}
use Rattle.runs.specs.Run.{ended, answer_of, received_after}
use Rattle.agreement.specs.declared.register.Role.{Role}
use Rattle.agreement.specs.declared.register.Role.TheVariants.{Sizes as sizes, Status as status, Counts as counts}
use Rattle.agreement.specs.declared.register.Role.TheVariants.{Control as control, Commands as commands, Sends as sends}
use Rattle.agreement.specs.declared.register.Role.TheVariants.{Receives as receives, Holds as holds}
use Rattle.agreement.specs.Start.{Start, Job, transfer_of}

-- QUEUES AND FLAGS

-- what takes a place of a transmit queue: "TCR writes pass through the transmit FIFO" (document 02, No. 2)
pub data Item : Type 0 where
  Command : Item
  Word : ℕ → Item

-- "transmit and receive queues of 2^e words, flags T and R": the next to leave a queue stands first
pub record Wire : Type 0 where
  pub transmit : List Item
  pub receive : List ℕ
  pub t : Bool
  pub r : Bool

-- other queues, the flags kept
abbrev pub queues : List Item → List ℕ → Wire → Wire
queues transmit receive w = record { transmit = transmit; receive = receive; t = w.t; r = w.r }

-- an event sets T or R
abbrev pub raised : Direction → Wire → Wire
raised Tx w = record { transmit = w.transmit; receive = w.receive; t = true; r = w.r }
raised Rx w = record { transmit = w.transmit; receive = w.receive; t = w.t; r = true }

-- T and R are cleared where the tests say so
abbrev pub lowered : Bool → Bool → Wire → Wire
lowered t r w = record { transmit = w.transmit; receive = w.receive; t = cond t false w.t; r = cond r false w.r }

-- queues of 2^e words; a command takes the place of one
abbrev pub full : {A : Type 0} → ℕ → List A → Bool
full e queue = leb (2 ^ e) (length queue)

-- TDR and TCR append; onto a full queue: lost, T set (no command ever is: `Demand3.gate_command_first`, `antenna_command_first`)
abbrev pub sent_into : ℕ → Item → Wire → Wire
sent_into e x w = cond (full e w.transmit) (raised Tx w) (queues (w.transmit ++ (x ∷ [])) w.receive w)

-- the words of a transmit queue: "an end whose queue holds only a command has no word to send"
abbrev pub words_in : List Item → List ℕ
words_in [] = []
words_in (Command ∷ queue) = words_in queue
words_in (Word v ∷ queue) = v ∷ words_in queue

-- what is left once its first word has left: a command "leaves with the next word behind it"
abbrev pub past_word : List Item → List Item
past_word [] = []
past_word (Command ∷ queue) = past_word queue
past_word (Word v ∷ queue) = queue

-- queues and flags once the first word to be sent has left
abbrev pub word_gone : Wire → Wire
word_gone w = queues (past_word w.transmit) w.receive w

-- a word arriving at a full queue is lost and sets that end's R
abbrev pub arrived : ℕ → ℕ → Wire → Wire
arrived e v w = cond (full e w.receive) (raised Rx w) (queues w.transmit (w.receive ++ (v ∷ [])) w)

-- RDR removes the first (0 if none)
abbrev pub front : List ℕ → ℕ
front [] = 0
front (v ∷ queue) = v

-- what stands behind the first
abbrev pub behind : {A : Type 0} → List A → List A
behind [] = []
behind (v ∷ queue) = queue

-- "empty their queue", where the test says so
abbrev pub emptied_if : {A : Type 0} → Bool → List A → List A
emptied_if b queue = cond b [] queue

-- REGISTERS

-- what a register does on the bus; the others hold what was written
abbrev pub role_of : Register → Role
role_of PARAM = sizes
role_of CR = control
role_of SR = status
role_of IER = holds
role_of DER = holds
role_of CFGR0 = holds
role_of CFGR1 = holds
role_of DMR0 = holds
role_of DMR1 = holds
role_of CCR = holds
role_of FCR = holds
role_of FSR = counts
role_of TCR = commands
role_of TDR = sends
role_of RSR = holds
role_of RDR = receives

-- a register's place among those held
abbrev pub place_of : Register → ℕ
place_of r = offset_of r / 4

-- what a read shows: both PARAM fields are the exponent; SR shows T, R, busy; FSR counts, "a command now counts in TXCOUNT"
abbrev pub shows_by : ℕ → Bool → Wire → Role → ℕ → ℕ
shows_by e busy w sizes held = set_all ((Param RXFIFO, e) ∷ (Param TXFIFO, e) ∷ []) 0
shows_by e busy w status held = set_all ((Sr TEF, flag_of w.t) ∷ (Sr REF, flag_of w.r) ∷ (Sr MBF, flag_of busy) ∷ []) 0
shows_by e busy w counts held = set_all ((Fsr RXCOUNT, length w.receive) ∷ (Fsr TXCOUNT, length w.transmit) ∷ []) 0
shows_by e busy w control held = held
shows_by e busy w commands held = held
shows_by e busy w sends held = held
shows_by e busy w receives held = front w.receive
shows_by e busy w holds held = held

-- of a register: what it shows by its role, or holds
abbrev pub shows : ℕ → Bool → Wire → List ℕ → Register → ℕ
shows e busy w registers r = shows_by e busy w (role_of r) (get_or registers (place_of r) 0)

-- what a read does to the queues
abbrev pub read_by : Role → Wire → Wire
read_by sizes w = w
read_by status w = w
read_by counts w = w
read_by control w = w
read_by commands w = w
read_by sends w = w
read_by receives w = queues w.transmit (behind w.receive) w
read_by holds w = w

-- what a write does to queues and flags: writing 1 to bit 11 or 12 clears that flag; RTF, RRF empty their queue; RST empties both and
-- clears flags
abbrev pub written_by : ℕ → Role → ℕ → Wire → Wire
written_by e sizes v w = w
written_by e status v w = lowered (eqb (read_field (Sr TEF) v) 1) (eqb (read_field (Sr REF) v) 1) w
written_by e counts v w = w
written_by e control v w =
    let reset = eqb (read_field (Cr RST) v) 1 in
    lowered reset reset
    (queues (emptied_if (reset || eqb (read_field (Cr RTF) v) 1) w.transmit)
    (emptied_if (reset || eqb (read_field (Cr RRF) v) 1) w.receive) w)
written_by e commands v w = sent_into e Command w
written_by e sends v w = sent_into e (Word v) w
written_by e receives v w = w
written_by e holds v w = w

-- and to the registers: RTF and RRF read as 0; "TCR is noted"
abbrev pub held_by : Role → ℕ → ℕ → List ℕ → List ℕ
held_by sizes place v registers = registers
held_by status place v registers = registers
held_by counts place v registers = registers
held_by control place v registers = set registers place (set_all ((Cr RTF, 0) ∷ (Cr RRF, 0) ∷ []) v)
held_by commands place v registers = set registers place v
held_by sends place v registers = registers
held_by receives place v registers = registers
held_by holds place v registers = set registers place v

-- AN ACCESS

-- what it is answered
abbrev pub answer_to : ℕ → Bool → Wire → List ℕ → Access → ℕ
answer_to e busy w registers (Read r) = shows e busy w registers r
answer_to e busy w registers (Write r v) = 0
answer_to e busy w registers (Send i) = 0
answer_to e busy w registers (Receive i) = shows e busy w registers RDR
answer_to e busy w registers (Done x) = 0

-- queues, flags and registers after it, where `word` is what is sent at a place
abbrev pub wire_after : ℕ → (ℕ → ℕ) → Access → Wire → Wire
wire_after e word (Read r) w = read_by (role_of r) w
wire_after e word (Write r v) w = written_by e (role_of r) v w
wire_after e word (Send i) w = written_by e (role_of TDR) (word i) w
wire_after e word (Receive i) w = read_by (role_of RDR) w
wire_after e word (Done x) w = w

-- a write to TDR changes none of those held
abbrev pub registers_after : (ℕ → ℕ) → Access → List ℕ → List ℕ
registers_after word (Read r) registers = registers
registers_after word (Write r v) registers = held_by (role_of r) (place_of r) v registers
registers_after word (Send i) registers = held_by (role_of TDR) (place_of TDR) (word i) registers
registers_after word (Receive i) registers = registers
registers_after word (Done x) registers = registers

-- AN END

-- its transfer, its flush, the FIFO words received, queues and flags, and 30 registers by offset / 4
pub record End : Type 0 where
  pub transfer : Transfer
  pub flush : Flush
  pub received : List ℕ
  pub wire : Wire
  pub registers : List ℕ

-- an end, of its parts
abbrev pub end : Transfer → Flush → List ℕ → Wire → List ℕ → End
end t f received w registers = record { transfer = t; flush = f; received = received; wire = w; registers = registers }

-- "Fresh: queues empty, flags clear"
abbrev pub fresh_wire : Wire
fresh_wire = record { transmit = []; receive = []; t = false; r = false }

-- "CR 1, other registers but PARAM 0" (PARAM shows the exponent)
abbrev pub fresh_registers : List ℕ
fresh_registers = set (replicate 30 0) (place_of CR) 1

-- an end at fresh
abbrev pub fresh_end : Start → End
fresh_end s = end (transfer_of s) Status [] fresh_wire fresh_registers

-- the access that its transfer's run makes next, and once that has answered, its flush's
abbrev pub first_due : Access → Access → Access
first_due (Read r) later = Read r
first_due (Write r v) later = Write r v
first_due (Send i) later = Send i
first_due (Receive i) later = Receive i
first_due (Done x) later = later

-- the access that is due of an end
abbrev pub end_access : Transfer → Flush → Access
end_access t f = first_due (due_access t) (flush_access f)

-- the end after the access a, which was answered v; a transfer that has ended stays, and so does a flush
abbrev pub end_after : Job → Access → ℕ → End → End
end_after j a v x =
    let word = j.words x.received in
    end (resumed x.transfer (answer_of a v)) (cond (ended (due_access x.transfer)) (flushed x.flush (answer_of a v)) x.flush)
    (received_after a v x.received) (wire_after j.exponent word a x.wire) (registers_after word a x.registers)

-- STEP OF AN END, with a busy bit
unfoldable pub stepped : Job → Bool → End → End
stepped j busy x =
    let a = end_access x.transfer x.flush in
    end_after j a (answer_to j.exponent busy x.wire x.registers a) x
