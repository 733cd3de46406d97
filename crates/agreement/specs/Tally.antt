-- What a list of events did to an end (document 01, The bus): words lost and made up there, and flags set there. "Lost" and "made up" mean
-- just the cases that the bus marks. A lost or made-up word counts as setting its flag even if the flag was set already.
-- Assumes nothing.
use Rattle.std.specs.Prelude.{ℕ, suc, Bool, true, false, not, ◌&&◌, List, [], ◌∷◌}
use Rattle.manual.specs.declared.Register.TheVariants.{TDR}
use Rattle.sequences.specs.declared.access.Access.{Access}
use Rattle.sequences.specs.declared.access.Access.TheVariants.{Read, Write, Send, Receive, Done}
use Rattle.agreement.specs.declared.event.Event.{Event}
use Rattle.agreement.specs.declared.event.Event.TheVariants.{Step, Clock, Noise}
use Rattle.agreement.specs.declared.event.Side.{Side}
use Rattle.agreement.specs.declared.event.Side.TheVariants.{Gate, Antenna}
use Rattle.agreement.specs.declared.register.Role.{Role}
use Rattle.agreement.specs.declared.register.Role.TheVariants.{Sizes as sizes, Status as status, Counts as counts}
use Rattle.agreement.specs.declared.register.Role.TheVariants.{Control as control, Commands as commands, Sends as sends}
use Rattle.agreement.specs.declared.register.Role.TheVariants.{Receives as receives, Holds as holds}
use Rattle.agreement.specs.Start.{Start, Job, job}
use Rattle.agreement.specs.End.{Wire, End, words_in, role_of, full, end_access}
use Rattle.agreement.specs.Events.{Pair, happened, fresh_pair}

-- words lost, words made up, and times that a flag was set
pub record Tally : Type 0 where
  pub lost : ℕ
  pub made_up : ℕ
  pub flags : ℕ

-- before any event
abbrev pub nothing : Tally
nothing = record { lost = 0; made_up = 0; flags = 0 }

-- one more, where the test says so
abbrev pub up : Bool → ℕ → ℕ
up true n = suc n
up false n = n

-- one event: was a word lost, was one made up, was there noise
abbrev pub noted : Bool → Bool → Bool → Tally → Tally
noted lost made_up noise y =
    record { lost = up lost y.lost; made_up = up made_up y.made_up; flags = up lost (up made_up (up noise y.flags)) }

-- there is a word to send
abbrev pub waiting : List ℕ → Bool
waiting [] = false
waiting (v ∷ words) = true

-- a write to TDR onto a full queue. A command onto one would count as a lost word; there is none (`EndFacts.no_overrun`)
abbrev pub overrun_by : Role → ℕ → Wire → Bool
overrun_by sizes e w = false
overrun_by status e w = false
overrun_by counts e w = false
overrun_by control e w = false
overrun_by commands e w = full e w.transmit
overrun_by sends e w = full e w.transmit
overrun_by receives e w = false
overrun_by holds e w = false

-- an access that is one
abbrev pub overrun : ℕ → Access → Wire → Bool
overrun e (Read r) w = false
overrun e (Write r v) w = overrun_by (role_of r) e w
overrun e (Send i) w = overrun_by (role_of TDR) e w
overrun e (Receive i) w = false
overrun e (Done x) w = false

-- a step whose access is one
abbrev pub step_overruns : Job → End → Bool
step_overruns j x = overrun j.exponent (end_access x.transfer x.flush) x.wire

module _ (g a : Job) where
  -- of one event, at the gate: a clock with a word to send loses the word that arrives at a full queue; the antenna makes one up where it
  -- has none
  abbrev pub gate_notes : Pair → Event → Tally → Tally
  gate_notes p (Step Gate busy) y = noted (step_overruns g p.gate) false false y
  gate_notes p (Step Antenna busy) y = y
  gate_notes p Clock y = noted (waiting (words_in p.gate.wire.transmit) && full g.exponent p.gate.wire.receive) false false y
  gate_notes p (Noise Gate d) y = noted false false true y
  gate_notes p (Noise Antenna d) y = y

  -- of one event, at the antenna
  abbrev pub antenna_notes : Pair → Event → Tally → Tally
  antenna_notes p (Step Gate busy) y = y
  antenna_notes p (Step Antenna busy) y = noted (step_overruns a p.antenna) false false y
  antenna_notes p Clock y =
      noted (waiting (words_in p.gate.wire.transmit) && full a.exponent p.antenna.wire.receive)
      (waiting (words_in p.gate.wire.transmit) && not (waiting (words_in p.antenna.wire.transmit))) false y
  antenna_notes p (Noise Gate d) y = y
  antenna_notes p (Noise Antenna d) y = noted false false true y

  -- at either end
  abbrev pub notes : Side → Pair → Event → Tally → Tally
  notes Gate = gate_notes
  notes Antenna = antenna_notes

  -- over a list of events
  unfoldable pub tallied : Side → Tally → Pair → List Event → Tally
  tallied s y p [] = y
  tallied s y p (v ∷ vs) = tallied s (notes s p v y) (happened g a p v) vs

-- from fresh
abbrev pub tally : Side → Start → Start → List Event → Tally
tally s g a vs = tallied (job g) (job a) s nothing (fresh_pair g a) vs
