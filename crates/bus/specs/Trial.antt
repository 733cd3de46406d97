-- THE PAIR ENTRY, of elements of k bits: two boards, the buffers that they are lent, and events as bytes.
-- Assumes nothing.
use Rattle.std.specs.Prelude.{ℕ, Bool, cond, ◌||◌, List, ◌≡◌, Result, Ok, Err}
use Rattle.agreement.specs.declared.board.Board.{Board}
use Rattle.agreement.specs.Start.{Start, element_bits, unequal, unfit}
use Rattle.agreement.specs.End.{fresh_end}
use Rattle.agreement.specs.Events.{pair_after}
use Rattle.agreement.specs.Agreement.{Seen, seen, buffer_of, Agreement}
use Rattle.agreement.specs.Codes.{events_of}
use Rattle.bus.specs.declared.trial.Outcome.{Outcome}
use Rattle.bus.specs.declared.trial.Unfit.{Unfit}
use Rattle.bus.specs.View.{state_of}

-- a board with its buffers, at fresh
abbrev pub start_of : Board → List ℕ → List ℕ → Start
start_of b read write = record { board = b; read = read; write = write }

-- number 9: the boards do not fit ("a FIFO exponent over 4, or unequal width, order or total length"), or the gate's width is not that of
-- the buffers, and then, where the boards fit, neither is the antenna's
abbrev pub unpaired : ℕ → Start → Start → Bool
unpaired k g a = unequal (element_bits g) k || unfit g a

-- document 01's number: 9 where the boards do not fit
abbrev pub trial_number : Result (Unit {0}) Unfit → ℕ
trial_number (Ok x) = 0
trial_number (Err e) = 9

-- what a trial leaves: its number, both ends, and both read buffers
pub record TrialLeft : Type 0 where
  pub number : ℕ
  pub gate : Seen
  pub antenna : Seen
  pub gate_read : List ℕ
  pub antenna_read : List ℕ

-- what the code answers, with the read buffers at exit
abbrev pub trial_left : Outcome → List ℕ → List ℕ → TrialLeft
trial_left r gate_read antenna_read =
    record {
      number = trial_number r.result;
      gate = state_of r.gate;
      antenna = state_of r.antenna;
      gate_read = gate_read;
      antenna_read = antenna_read;
    }

-- 9: all as found. Else the events, from fresh
abbrev pub trial_of : ℕ → Board → Board → List ℕ → List ℕ → List ℕ → List ℕ → List ℕ → TrialLeft
trial_of k g a gate_read gate_write antenna_read antenna_write events =
    let s = start_of g gate_read gate_write in
    let t = start_of a antenna_read antenna_write in
    cond (unpaired k s t)
    (record { number = 9; gate = seen (fresh_end s); antenna = seen (fresh_end t); gate_read = gate_read; antenna_read = antenna_read })
    (let p = pair_after s t (events_of events) in
    record {
      number = 0;
      gate = seen p.gate;
      antenna = seen p.antenna;
      gate_read = buffer_of s p.gate;
      antenna_read = buffer_of t p.antenna;
    })

-- THE PROMISE OF THE PAIR ENTRY, of the result and the read buffers that it leaves
pub record Tried (k : ℕ) (g a : Board) (gate_read gate_write antenna_read antenna_write events : List ℕ) (r : Outcome)
    (gate_left antenna_left : List ℕ) : Type 0 where
  -- all of it is the definition's
  pub same : trial_left r gate_left antenna_left ≡ trial_of k g a gate_read gate_write antenna_read antenna_write events
  -- and where the boards fit, demand 3 holds of it
  pub agreement : trial_number r.result ≡ 0
      → Agreement (start_of g gate_read gate_write) (start_of a antenna_read antenna_write) (events_of events) (state_of r.gate)
      (state_of r.antenna) gate_left antenna_left
