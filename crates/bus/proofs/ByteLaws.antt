-- Events as bytes: every event has one. So (c) of demand 3 speaks of what the pair entry answers: to a list of bytes that can still come to
-- Ok twice at both ends there are bytes that bring it there. Assumes nothing.
use Prim.Native.Nat.{ℕ, zero, suc, ◌+◌, ◌^◌, ◌<◌}
use mathlib.Core.Bool.{Bool, true, false, cond}
use mathlib.Core.List.{List, [], ◌∷◌, ◌++◌}
use mathlib.Core.Path.{◌≡◌, refl, sym, ap, ap₂, ◌∙◌, subst}
use native.Mathlib.Omega.{arith}
use Rattle.words.specs.declared.transaction.Direction.TheVariants.{Tx, Rx}
use Rattle.words.proofs.WordLaws.{Elements}
use Rattle.agreement.specs.declared.board.Board.{Board}
use Rattle.agreement.specs.declared.event.Event.{Event}
use Rattle.agreement.specs.declared.event.Event.TheVariants.{Step, Clock, Noise}
use Rattle.agreement.specs.declared.event.Side.TheVariants.{Gate, Antenna}
use Rattle.agreement.specs.Start.{Start, accepted}
use Rattle.agreement.specs.Events.{pair_after}
use Rattle.agreement.specs.Tally.{tally}
use Rattle.agreement.specs.Agreement.{Seen, seen, OkTwice, Plain}
use Rattle.agreement.specs.Codes.{event_of, events_of}
use Rattle.agreement.proofs.Demand3.{finishes}
use Rattle.bus.specs.Trial.{start_of, unpaired, TrialLeft, trial_of}
use Rattle.bus.proofs.TrialLaws.{not_refused}

-- A BYTE FOR EVERY EVENT
abbrev pub byte_of : Event → ℕ
byte_of (Step Gate false) = 0
byte_of (Step Gate true) = 1
byte_of (Step Antenna false) = 2
byte_of (Step Antenna true) = 3
byte_of Clock = 4
byte_of (Noise Gate Tx) = 5
byte_of (Noise Gate Rx) = 6
byte_of (Noise Antenna Tx) = 7
byte_of (Noise Antenna Rx) = 8

pub event_of_byte : (v : Event) → event_of (byte_of v) ≡ v
event_of_byte (Step Gate false) = refl
event_of_byte (Step Gate true) = refl
event_of_byte (Step Antenna false) = refl
event_of_byte (Step Antenna true) = refl
event_of_byte Clock = refl
event_of_byte (Noise Gate Tx) = refl
event_of_byte (Noise Gate Rx) = refl
event_of_byte (Noise Antenna Tx) = refl
event_of_byte (Noise Antenna Rx) = refl

pub byte_small : (v : Event) → byte_of v < 256
byte_small (Step Gate false) = omega arith
byte_small (Step Gate true) = omega arith
byte_small (Step Antenna false) = omega arith
byte_small (Step Antenna true) = omega arith
byte_small Clock = omega arith
byte_small (Noise Gate Tx) = omega arith
byte_small (Noise Gate Rx) = omega arith
byte_small (Noise Antenna Tx) = omega arith
byte_small (Noise Antenna Rx) = omega arith

-- LISTS
abbrev pub bytes_of : List Event → List ℕ
bytes_of [] = []
bytes_of (v ∷ vs) = byte_of v ∷ bytes_of vs

pub events_of_bytes : (vs : List Event) → events_of (bytes_of vs) ≡ vs
events_of_bytes [] = refl
events_of_bytes (v ∷ vs) = ap₂ (λ (x : Event) (xs : List Event). x ∷ xs) (event_of_byte v) (events_of_bytes vs)

pub bytes_small : (vs : List Event) → Elements 8 (bytes_of vs)
bytes_small [] i = omega arith
bytes_small (v ∷ vs) zero = byte_small v
bytes_small (v ∷ vs) (suc i) = bytes_small vs i

pub events_append : (xs ys : List ℕ) → events_of (xs ++ ys) ≡ events_of xs ++ events_of ys
events_append [] ys = refl
events_append (x ∷ xs) ys = ap (λ (vs : List Event). event_of x ∷ vs) (events_append xs ys)

-- (c) OF THE PAIR ENTRY
module _ (k : ℕ) (g a : Board) (gate_read gate_write antenna_read antenna_write : List ℕ) where
  -- what the entry answers to a list of bytes
  abbrev pub answered : List ℕ → TrialLeft
  answered bytes = trial_of k g a gate_read gate_write antenna_read antenna_write bytes

  abbrev pub gate_start : Start
  gate_start = start_of g gate_read gate_write

  abbrev pub antenna_start : Start
  antenna_start = start_of a antenna_read antenna_write

  -- further bytes, all of them steps or clocks, after which it answers 0 and both ends have had Ok twice
  pub record Reaches (bytes : List ℕ) : Type 0 where
    pub more : List ℕ
    pub small : Elements 8 more
    pub plain : Plain (events_of more)
    pub number : (answered (bytes ++ more)).number ≡ 0
    pub gate : OkTwice (answered (bytes ++ more)).gate
    pub antenna : OkTwice (answered (bytes ++ more)).antenna

  accepts : (b : Bool) (x y : TrialLeft) → x.number ≡ 9 → (cond b x y).number ≡ 0 → b ≡ false
  accepts true x y e h = absurd (omega (arith, e, h))
  accepts false x y e h = refl

  module _ (fits : unpaired k gate_start antenna_start ≡ false) (bytes : List ℕ) where
    number_is : (answered bytes).number ≡ 0
    number_is = rw fits

    gate_is : (answered bytes).gate ≡ seen (pair_after gate_start antenna_start (events_of bytes)).gate
    gate_is = rw fits

    antenna_is : (answered bytes).antenna ≡ seen (pair_after gate_start antenna_start (events_of bytes)).antenna
    antenna_is = rw fits

  pub reaches : (bytes : List ℕ) → (answered bytes).number ≡ 0
      → (tally Gate gate_start antenna_start (events_of bytes)).flags + (tally Antenna gate_start antenna_start (events_of bytes)).flags ≡ 0
      → accepted gate_start ≡ true → 1 < 2 ^ g.exponent → 1 < 2 ^ a.exponent → Reaches bytes
  reaches bytes zero_number calm ok eg ea =
      let fits = accepts (unpaired k gate_start antenna_start) _ _ refl zero_number in
      let f = finishes gate_start antenna_start (not_refused k gate_start antenna_start fits).1 (events_of bytes) calm ok eg ea in
      let more = bytes_of f.more in
      let same : events_of bytes ++ f.more ≡ events_of (bytes ++ more) =
      ap (λ (vs : List Event). events_of bytes ++ vs) (sym (events_of_bytes f.more)) ∙ sym (events_append bytes more) in
      record {
        more = more;
        small = bytes_small f.more;
        plain = subst (λ (vs : List Event). Plain vs) (sym (events_of_bytes f.more)) f.plain;
        number = number_is fits (bytes ++ more);
        gate = subst (λ (x : Seen). OkTwice x) (sym (gate_is fits (bytes ++ more)))
            (subst (λ (vs : List Event). OkTwice (seen (pair_after gate_start antenna_start vs).gate)) same f.gate);
        antenna = subst (λ (x : Seen). OkTwice x) (sym (antenna_is fits (bytes ++ more)))
            (subst (λ (vs : List Event). OkTwice (seen (pair_after gate_start antenna_start vs).antenna)) same f.antenna);
      }
