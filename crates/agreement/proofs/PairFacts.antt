-- The pair: every event keeps what is known of both ends.
-- Assumes nothing.
use Prim.Native.Nat.{ℕ, suc, ◌<◌, ◌≤◌}
use mathlib.Core.Bool.{Bool, true, false, ◌&&◌, not}
use mathlib.Core.List.{List, [], ◌∷◌}
use mathlib.Core.Path.{◌≡◌, refl, ap, subst}
use native.Mathlib.Omega.{arith}
use lib.ListN.{length}
use Rattle.agreement.specs.declared.event.Event.{Event}
use Rattle.agreement.specs.declared.event.Event.TheVariants.{Step, Clock, Noise}
use Rattle.agreement.specs.declared.event.Side.TheVariants.{Gate, Antenna}
use Rattle.agreement.specs.Start.{Job}
use Rattle.agreement.specs.End.{full, words_in, End, stepped}
use Rattle.agreement.specs.Events.{Pair, pair, clocked_by, happened, after}
use Rattle.agreement.specs.Tally.{Tally, noted, waiting, gate_notes, antenna_notes, tallied}
use Rattle.agreement.proofs.WordLists.{from, uncons}
use Rattle.agreement.proofs.EndFacts.{Keeps, own, Good, keep_step, no_overrun}
use Rattle.agreement.proofs.WireFacts.{good_noise, good_sent, good_made_up, good_arrived}

module _ (n : ℕ) (accepts : Bool) (jg ja : Job) (small-g : jg.exponent ≤ 4) (small-a : ja.exponent ≤ 4) (keeps-g : Keeps jg)
    (keeps-a : Keeps ja) where
  abbrev GoodGate : ℕ → ℕ → ℕ → Tally → End → Type 0
  GoodGate = Good n accepts jg (own ja)

  abbrev GoodAntenna : ℕ → ℕ → ℕ → Tally → End → Type 0
  GoodAntenna = Good n accepts ja (own jg)

  -- c words have been clocked; the gate makes none up
  pub record Both (c : ℕ) (σ τ : Tally) (p : Pair) : Type 0 where
    pub gate : GoodGate c c τ.made_up σ p.gate
    pub antenna : GoodAntenna c c 0 τ p.antenna
    pub clean : σ.made_up ≡ 0

  more_to_clock : (c : ℕ) (σ τ : Tally) (p : Pair) (v : ℕ) (words : List ℕ)
      → words_in p.gate.wire.transmit ≡ v ∷ words → Both c σ τ p → c < n
  more_to_clock c σ τ p v words e b = omega (arith, ap length e, b.gate.base.room, b.clean)

  -- a word each way
  pub both_clocked : (c : ℕ) (σ τ : Tally) (p : Pair) (v u : ℕ) (ours theirs : List ℕ)
      → words_in p.gate.wire.transmit ≡ v ∷ ours → words_in p.antenna.wire.transmit ≡ u ∷ theirs → Both c σ τ p
      → Both (suc c) (noted (full jg.exponent p.gate.wire.receive) false false σ)
      (noted (full ja.exponent p.antenna.wire.receive) false false τ) (clocked_by jg ja (v ∷ ours) (u ∷ theirs) p)
  unfolding clocked_by
  both_clocked c σ τ p v u ours theirs eg ea b =
      let l = more_to_clock c σ τ p v ours eg b in
      record {
        gate =
            good_arrived n accepts jg (own ja) c τ.made_up σ _ u τ.made_up (omega arith)
            (λ h. (uncons (own ja) c u theirs (subst (λ (q : List ℕ). q ≡ from (own ja) c (length q)) ea (b.antenna.base.tx_is h))).0)
            (good_sent n accepts jg (own ja) c τ.made_up σ p.gate v ours eg l b.gate);
        antenna =
            good_arrived n accepts ja (own jg) c 0 τ _ v 0 (omega arith)
            (λ h. (uncons (own jg) c v ours (subst (λ (q : List ℕ). q ≡ from (own jg) c (length q)) eg (b.gate.base.tx_is b.clean))).0)
            (good_sent n accepts ja (own jg) c 0 τ p.antenna u theirs ea l b.antenna);
        clean = b.clean;
      }

  both_clock : (c : ℕ) (σ τ : Tally) (p : Pair) (ours theirs : List ℕ) → words_in p.gate.wire.transmit ≡ ours
      → words_in p.antenna.wire.transmit ≡ theirs → Both c σ τ p
      → (c' : ℕ) × Both c' (noted (waiting ours && full jg.exponent p.gate.wire.receive) false false σ)
      (noted (waiting ours && full ja.exponent p.antenna.wire.receive) (waiting ours && not (waiting theirs)) false τ)
      (clocked_by jg ja ours theirs p)
  unfolding clocked_by
  both_clock c σ τ p [] theirs eg ea b = (c, b)
  both_clock c σ τ p (v ∷ ours) [] eg ea b =
      let l = more_to_clock c σ τ p v ours eg b in (
        suc c,
        record {
          gate =
              good_arrived n accepts jg (own ja) c τ.made_up σ _ 0 (suc τ.made_up) (omega arith) (λ h. absurd (omega (arith, h)))
              (good_sent n accepts jg (own ja) c τ.made_up σ p.gate v ours eg l b.gate);
          antenna =
              good_arrived n accepts ja (own jg) c 0 (noted false true false τ) _ v 0 (omega arith)
              (λ h.
              (uncons (own jg) c v ours
              (subst (λ (q : List ℕ). q ≡ from (own jg) c (length q)) eg (b.gate.base.tx_is b.clean))).0)
              (good_made_up n accepts ja (own jg) c 0 τ p.antenna ea l b.antenna);
          clean = b.clean;
        },
      )
  both_clock c σ τ p (v ∷ ours) (u ∷ theirs) eg ea b = (suc c, both_clocked c σ τ p v u ours theirs eg ea b)

  pub both_gate_step : (c : ℕ) (σ τ : Tally) (p : Pair) (busy : Bool) → Both c σ τ p
      → Both c σ τ (pair (stepped jg busy p.gate) p.antenna)
  both_gate_step c σ τ p busy b = let x = p.gate in record {
    gate =
        keep_step n accepts jg (own ja) small-g keeps-g c τ.made_up σ busy x.transfer.phase x.transfer.work
        x.transfer.reset x.flush x.received x.wire x.registers b.gate.base b.gate.now;
    antenna = b.antenna;
    clean = b.clean;
  }

  pub both_antenna_step : (c : ℕ) (σ τ : Tally) (p : Pair) (busy : Bool) → Both c σ τ p
      → Both c σ τ (pair p.gate (stepped ja busy p.antenna))
  both_antenna_step c σ τ p busy b = let x = p.antenna in record {
    gate = b.gate;
    antenna =
        keep_step n accepts ja (own jg) small-a keeps-a c 0 τ busy x.transfer.phase x.transfer.work x.transfer.reset
        x.flush x.received x.wire x.registers b.antenna.base b.antenna.now;
    clean = b.clean;
  }

  -- EVERY EVENT
  both_event : (c : ℕ) (σ τ : Tally) (p : Pair) (v : Event) → Both c σ τ p
      → (c' : ℕ) × Both c' (gate_notes jg ja p v σ) (antenna_notes jg ja p v τ) (happened jg ja p v)
  unfolding happened
  both_event c σ τ p (Step Gate busy) b =
      let x = p.gate in (
        c,
        rw
            (no_overrun n accepts jg (own ja) c c τ.made_up σ x.transfer.phase x.transfer.work x.transfer.reset
            x.flush x.received x.wire b.gate.now)
            (both_gate_step c σ τ p busy b),
      )
  both_event c σ τ p (Step Antenna busy) b =
      let x = p.antenna in (
        c,
        rw
            (no_overrun n accepts ja (own jg) c c 0 τ x.transfer.phase x.transfer.work x.transfer.reset x.flush
            x.received x.wire b.antenna.now)
            (both_antenna_step c σ τ p busy b),
      )
  both_event c σ τ p Clock b =
      both_clock c σ τ p (words_in p.gate.wire.transmit) (words_in p.antenna.wire.transmit) refl refl b
  both_event c σ τ p (Noise Gate d) b = (
    c,
    record
        { gate = good_noise n accepts jg (own ja) c τ.made_up σ p.gate d b.gate; antenna = b.antenna; clean = b.clean },
  )
  both_event c σ τ p (Noise Antenna d) b =
      (c, record { gate = b.gate; antenna = good_noise n accepts ja (own jg) c 0 τ p.antenna d b.antenna; clean = b.clean })

  -- EVERY LIST
  pub both_after : (c : ℕ) (σ τ : Tally) (p : Pair) (vs : List Event) → Both c σ τ p
      → (c' : ℕ) × Both c' (tallied jg ja Gate σ p vs) (tallied jg ja Antenna τ p vs) (after jg ja p vs)
  unfolding after tallied
  both_after c σ τ p [] b = (c, b)
  both_after c σ τ p (v ∷ vs) b =
      let k = both_event c σ τ p v b in both_after k.0 (gate_notes jg ja p v σ) (antenna_notes jg ja p v τ) (happened jg ja p v) vs k.1
