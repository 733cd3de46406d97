-- What an end's state means: its port as a wire, and what of an end can be seen. A FIFO is its queue.
-- Assumes nothing.
use Rattle.std.specs.Prelude.{ℕ, zero, suc, List, [], ◌∷◌}
use Rattle.agreement.specs.End.{Item, Command, Word, Wire}
use Rattle.agreement.specs.Agreement.{Seen}
use Rattle.bus.specs.declared.port.Port.{Port}
use Rattle.bus.specs.declared.station.Station.{Station}
use Rattle.bus.specs.declared.trial.EndState.{EndState}

-- a transmit queue: so many commands, and words behind them. No other comes up: a command is only ever written into an empty queue
-- (`Demand3.gate_command_first`, `antenna_command_first`)
abbrev pub queued : ℕ → List ℕ → List Item
queued zero [] = []
queued zero (v ∷ words) = Word v ∷ queued zero words
queued (suc n) words = Command ∷ queued n words

-- "Each end has transmit and receive queues", and flags T and R
abbrev pub wire_of : Port → Wire
wire_of p = record { transmit = queued p.commands p.transmit; receive = p.receive; t = p.t; r = p.r }

-- an end, with its registers: all of it that can be seen
abbrev pub station_seen : Station → List ℕ → Seen
station_seen s registers = record { transfer = s.transfer; flush = s.flush; wire = wire_of s.port; registers = registers }

-- of an end that a trial answers
abbrev pub state_of : EndState → Seen
state_of x = station_seen x.station x.registers
