-- The pair and its events (document 01, The bus).
-- Assumes nothing.
use Rattle.std.specs.Prelude.{ℕ, List, [], ◌∷◌}
use Rattle.words.specs.declared.transaction.Direction.TheVariants.{Tx}
use Rattle.agreement.specs.declared.event.Event.{Event}
use Rattle.agreement.specs.declared.event.Event.TheVariants.{Step, Clock, Noise}
use Rattle.agreement.specs.declared.event.Side.{Side}
use Rattle.agreement.specs.declared.event.Side.TheVariants.{Gate, Antenna}
use Rattle.agreement.specs.Start.{Start, Job, job}
use Rattle.agreement.specs.End.{Wire, raised, words_in, word_gone, arrived, End, end, fresh_end, stepped}

-- two ends: the gate clocks, the antenna replies
pub record Pair : Type 0 where
  pub gate : End
  pub antenna : End

-- a pair, of its ends
abbrev pub pair : End → End → Pair
pair g a = record { gate = g; antenna = a }

-- the end at a side
abbrev pub at_side : Side → Pair → End
at_side Gate p = p.gate
at_side Antenna p = p.antenna

-- an end of which only queues and flags change
abbrev pub rewired : (Wire → Wire) → End → End
rewired f x = end x.transfer x.flush x.received (f x.wire) x.registers

module _ (g a : Job) where
  -- Clock: nothing if the gate has no word to send. Else its first word goes to the antenna; the antenna's first, or a made-up 0 with the
  -- antenna's T set, goes to the gate. An antenna whose queue holds only a command underruns, "the command staying". The two lists are the
  -- words queued at the gate and at the antenna
  unfoldable pub clocked_by : List ℕ → List ℕ → Pair → Pair
  clocked_by [] theirs p = p
  clocked_by (v ∷ ours) [] p =
      pair (rewired (λ w. arrived g.exponent 0 (word_gone w)) p.gate)
      (rewired (λ w. arrived a.exponent v (raised Tx w)) p.antenna)
  clocked_by (v ∷ ours) (u ∷ theirs) p =
      pair (rewired (λ w. arrived g.exponent u (word_gone w)) p.gate)
      (rewired (λ w. arrived a.exponent v (word_gone w)) p.antenna)

  -- ONE EVENT. Noise sets T or R at an end
  unfoldable pub happened : Pair → Event → Pair
  happened p (Step Gate busy) = pair (stepped g busy p.gate) p.antenna
  happened p (Step Antenna busy) = pair p.gate (stepped a busy p.antenna)
  happened p Clock = clocked_by (words_in p.gate.wire.transmit) (words_in p.antenna.wire.transmit) p
  happened p (Noise Gate d) = pair (rewired (raised d) p.gate) p.antenna
  happened p (Noise Antenna d) = pair p.gate (rewired (raised d) p.antenna)

  -- A LIST OF EVENTS
  unfoldable pub after : Pair → List Event → Pair
  after p [] = p
  after p (v ∷ vs) = after (happened p v) vs

-- both ends at fresh
abbrev pub fresh_pair : Start → Start → Pair
fresh_pair g a = pair (fresh_end g) (fresh_end a)

-- the pair after a list of events from fresh
abbrev pub pair_after : Start → Start → List Event → Pair
pair_after g a vs = after (job g) (job a) (fresh_pair g a) vs
