-- The two-board bus for a host: both boards at one width, and what a trial leaves: its number, both read buffers, and both ends' states
-- as words.
-- Assumes nothing.
use Rattle.std.specs.Prelude.{ℕ, zero, suc, ◌/◌, ◌%◌, cond, List, [], ◌∷◌, ◌++◌, eqb, length}
use Rattle.words.specs.declared.width.Width.{Width}
use Rattle.words.specs.Buffer.{filled}
use Rattle.words.specs.Command.{flag_of}
use Rattle.words.specs.Word.{laid}
use Rattle.sequences.specs.declared.access.Access.{Access}
use Rattle.sequences.specs.declared.access.Access.TheVariants.{Read, Write, Send, Receive, Done}
use Rattle.machine.specs.declared.flush.Flush.{Flush}
use Rattle.machine.specs.declared.transfer.Transfer.{Transfer}
use Rattle.sequences.specs.Access.{number_of}
use Rattle.machine.specs.Flush.{flush_access}
use Rattle.machine.specs.Transfer.{due_access}
use Rattle.agreement.specs.declared.board.Board.{Board}
use Rattle.agreement.specs.Agreement.{Seen}
use Rattle.agreement.specs.End.{Item, Command, Word, Wire, words_in}
use Rattle.words.specs.Width.{width_bits}
use Rattle.bus.specs.Trial.{TrialLeft, trial_of}
use Rattle.c_api.specs.HostRun.{driver_of}

-- THE STATE OF AN END, 68 words

-- document 01's number of an answer, 255 while there is none
abbrev pub answer_number : Access → ℕ
answer_number (Read r) = 255
answer_number (Write r v) = 255
answer_number (Send i) = 255
answer_number (Receive i) = 255
answer_number (Done x) = number_of x

-- the answers of the transfer and of the flush, T, R, and how many words each queue has
abbrev pub head_words : Transfer → Flush → Wire → List ℕ
head_words transfer flush wire =
    answer_number (due_access transfer) ∷ answer_number (flush_access flush) ∷ flag_of wire.t ∷ flag_of wire.r
    ∷ length (words_in wire.transmit) ∷ length wire.receive ∷ []

-- then the words to be sent, 0 past them, the receive queue, and the 30 registers
abbrev pub state_words : Seen → List ℕ
state_words x =
    head_words x.transfer x.flush x.wire
    ++ (filled 0 16 (words_in x.wire.transmit) ++ (filled 0 16 x.wire.receive ++ filled 0 30 x.registers))

-- how many commands a transmit queue has. They stand before its words: in what a trial leaves it is `queued` (bus `View`)
abbrev pub commands_in : List Item → ℕ
commands_in [] = 0
commands_in (Command ∷ queue) = suc (commands_in queue)
commands_in (Word v ∷ queue) = commands_in queue

-- BOTH STATES, 138 words: the gate's, the antenna's, and behind them the commands queued at the gate and at the antenna
abbrev pub pair_words : Seen → Seen → List ℕ
pair_words gate antenna =
    state_words gate ++ (state_words antenna ++ (commands_in gate.wire.transmit ∷ commands_in antenna.wire.transmit ∷ []))

-- words over a buffer from a place on (private contracts cite it)
abbrev pub laid_from : ℕ → List ℕ → List ℕ → List ℕ
laid_from zero xs bs = laid xs bs
laid_from (suc n) xs [] = []
laid_from (suc n) xs (b ∷ bs) = b ∷ laid_from n xs bs

-- THE TRIAL

-- in place where bit 0 is set
abbrev pub board_of : Width → ℕ → ℕ → ℕ → Board
board_of width driver inplace exponent =
    record { driver = driver_of driver; width = width; inplace = eqb (inplace % 2) 1; exponent = exponent }

-- what a trial leaves a host: its number, both read buffers, and the words of both states
pub record HostTrial : Type 0 where
  pub number : ℕ
  pub gate_read : List ℕ
  pub antenna_read : List ℕ
  pub state : List ℕ

-- of its parts
abbrev pub host_trial : ℕ → List ℕ → List ℕ → List ℕ → HostTrial
host_trial number gate_read antenna_read state =
    record { number = number; gate_read = gate_read; antenna_read = antenna_read; state = state }

-- both states over the front of what was lent for them; at 9 "all as found"
abbrev pub state_left : ℕ → Seen → Seen → List ℕ → List ℕ
state_left number gate antenna state = cond (eqb number 9) state (laid (pair_words gate antenna) state)

-- of what the pair entry leaves
abbrev pub of_trial : TrialLeft → List ℕ → HostTrial
of_trial t state = host_trial t.number t.gate_read t.antenna_read (state_left t.number t.gate t.antenna state)

-- bit 0 of `inplace` is the gate's, bit 1 the antenna's
abbrev pub trial_by : Width → ℕ → ℕ → ℕ → ℕ → ℕ → List ℕ → List ℕ → List ℕ → List ℕ → List ℕ → List ℕ → HostTrial
trial_by width gate_driver antenna_driver inplace gate_exponent antenna_exponent gate_read gate_write antenna_read antenna_write events
    state =
    of_trial
    (trial_of (width_bits width) (board_of width gate_driver inplace gate_exponent)
    (board_of width antenna_driver (inplace / 2) antenna_exponent)
    gate_read gate_write antenna_read antenna_write events)
    state
