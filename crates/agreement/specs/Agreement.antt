-- DEMAND 3 (document 01, The bus): one statement about a whole list of events from fresh, of any length.
-- Assumes nothing.
use Rattle.std.specs.Prelude.{ℕ, ◌+◌, ◌^◌, ◌<◌, true, List, [], ◌∷◌, ◌++◌, ◌≡◌, length, get_or, Ok}
use Rattle.words.specs.Buffer.{dummy, unpack_words}
use Rattle.words.specs.Word.{laid}
use Rattle.sequences.specs.declared.access.Access.TheVariants.{Done}
use Rattle.machine.specs.declared.flush.Flush.{Flush}
use Rattle.machine.specs.declared.transfer.Transfer.{Transfer}
use Rattle.machine.specs.Flush.{flush_access}
use Rattle.machine.specs.Transfer.{due_access}
use Rattle.agreement.specs.declared.event.Event.{Event}
use Rattle.agreement.specs.declared.event.Event.TheVariants.{Step, Clock, Noise}
use Rattle.agreement.specs.declared.event.Side.TheVariants.{Gate, Antenna}
use Rattle.agreement.specs.Start.{Start, element_bits, total, started, accepted}
use Rattle.agreement.specs.End.{Wire, End}
use Rattle.agreement.specs.Events.{pair_after}
use Rattle.agreement.specs.Tally.{tally}

-- what can be seen of an end: all but the words received, which its read buffer shows
pub record Seen : Type 0 where
  pub transfer : Transfer
  pub flush : Flush
  pub wire : Wire
  pub registers : List ℕ

-- of an end as the definitions have it
abbrev pub seen : End → Seen
seen x = record { transfer = x.transfer; flush = x.flush; wire = x.wire; registers = x.registers }

-- Ok twice: the end's transfer and then its flush have answered 0
abbrev pub OkTwice : Seen → Type 0
OkTwice x = (due_access x.transfer ≡ Done (Ok tt)) × (flush_access x.flush ≡ Done (Ok tt))

-- an end's read buffer: the elements of the words received so far over what it held at fresh
abbrev pub buffer_of : Start → End → List ℕ
buffer_of s x = laid (unpack_words s.board.driver.order (element_bits s) (total s) x.received) s.read

-- place i of a read buffer equals element i that the other end started with, or the width's DUMMY where that end had no more
abbrev pub Holds : Start → Start → List ℕ → Type 0
Holds mine theirs buffer = (i : ℕ) → i < length mine.read → get_or buffer i 0 ≡ get_or (started theirs) i (dummy (element_bits mine))

-- both queues of an end are empty: no word, and no command
pub record Emptied (x : Seen) : Type 0 where
  pub transmit : x.wire.transmit ≡ []
  pub receive : x.wire.receive ≡ []

-- only steps and clocks
abbrev pub Plain : List Event → Type 0
Plain [] = Unit {0}
Plain (Step s busy ∷ vs) = Plain vs
Plain (Clock ∷ vs) = Plain vs
Plain (Noise s d ∷ vs) = ⊥

-- further steps and clocks after a list of events bring both ends to Ok twice
pub record Finish (g a : Start) (events : List Event) : Type 0 where
  pub more : List Event
  pub plain : Plain more
  pub gate : OkTwice (seen (pair_after g a (events ++ more)).gate)
  pub antenna : OkTwice (seen (pair_after g a (events ++ more)).antenna)

-- of boards and buffers at fresh, a list of events, both ends after it, and both read buffers then
pub record Agreement (g a : Start) (events : List Event) (gate antenna : Seen) (gate_buffer antenna_buffer : List ℕ) : Type 0 where
  -- (a) once both ends have had Ok twice, each holds the other's elements, and all queues are empty
  pub gate_holds : OkTwice gate → OkTwice antenna → Holds g a gate_buffer
  pub antenna_holds : OkTwice gate → OkTwice antenna → Holds a g antenna_buffer
  pub gate_empty : OkTwice gate → OkTwice antenna → Emptied gate
  pub antenna_empty : OkTwice gate → OkTwice antenna → Emptied antenna
  -- (b) an end whose flag a lost or a made-up word set, anywhere in the list, has not had Ok twice
  pub gate_tells : 0 < (tally Gate g a events).lost + (tally Gate g a events).made_up → OkTwice gate → ⊥
  pub antenna_tells : 0 < (tally Antenna g a events).lost + (tally Antenna g a events).made_up → OkTwice antenna → ⊥
  -- (c) no event set a flag, the frame size is accepted, both FIFOs hold two words or more: both can still get there
  pub finishes : (tally Gate g a events).flags + (tally Antenna g a events).flags ≡ 0 → accepted g ≡ true
      → 1 < 2 ^ g.board.exponent → 1 < 2 ^ a.board.exponent
      → Finish g a events
