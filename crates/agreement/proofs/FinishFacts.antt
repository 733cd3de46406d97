-- From a state in which no event set a flag both ends come to Ok twice: both settle, a clock takes a word each way, over again.
-- Assumes nothing.
use Prim.Native.Nat.{ℕ, zero, suc, ◌+◌, ◌^◌, ◌<◌, ◌≤◌}
use mathlib.Core.Bool.{Bool, true, false}
use mathlib.Core.List.{List, [], ◌∷◌}
use mathlib.Core.Path.{◌≡◌, refl}
use native.Mathlib.Omega.{arith}
use lib.ListN.{length}
use borrow.Author.Tests.{lt-leb}
use Rattle.agreement.specs.declared.event.Event.{Event}
use Rattle.agreement.specs.declared.event.Event.TheVariants.{Step, Clock}
use Rattle.agreement.specs.declared.event.Side.{Side}
use Rattle.agreement.specs.declared.event.Side.TheVariants.{Gate, Antenna}
use Rattle.agreement.specs.Start.{Job}
use Rattle.agreement.specs.End.{full, words_in, End, stepped}
use Rattle.agreement.specs.Events.{Pair, pair, clocked_by, happened, after}
use Rattle.agreement.specs.Tally.{Tally}
use Rattle.agreement.specs.Agreement.{OkTwice, Plain, seen}
use Rattle.agreement.proofs.ShownLaws.{below_capacity}
use Rattle.agreement.proofs.QueueLaws.{words_most}
use Rattle.agreement.proofs.EndFacts.{Keeps, own, ok_facts}
use Rattle.agreement.proofs.PairFacts.{Both, both_gate_step, both_antenna_step, both_clocked}
use Rattle.agreement.proofs.SettleFacts.{steps, Settled, over, waits, Leads, leads}

-- some steps and clocks bring both to Ok twice
pub record Finishes (jg ja : Job) (p : Pair) : Type 0 where
  pub events : List Event
  pub plain : Plain events
  pub gate : OkTwice (seen (after jg ja p events).gate)
  pub antenna : OkTwice (seen (after jg ja p events).antenna)

module _ (jg ja : Job) where
  by_step : (p : Pair) (s : Side) → Finishes jg ja (happened jg ja p (Step s false)) → Finishes jg ja p
  unfolding after
  by_step p s f = record { events = Step s false ∷ f.events; plain = f.plain; gate = f.gate; antenna = f.antenna }

  by_clock : (p : Pair) → Finishes jg ja (happened jg ja p Clock) → Finishes jg ja p
  unfolding after
  by_clock p f = record { events = Clock ∷ f.events; plain = f.plain; gate = f.gate; antenna = f.antenna }

  by_gate : (i : ℕ) (x y : End) → Finishes jg ja (pair (steps jg i x) y) → Finishes jg ja (pair x y)
  unfolding steps happened
  by_gate zero x y f = f
  by_gate (suc i) x y f = by_step (pair x y) Gate (by_gate i (stepped jg false x) y f)

  by_antenna : (i : ℕ) (x y : End) → Finishes jg ja (pair x (steps ja i y)) → Finishes jg ja (pair x y)
  unfolding steps happened
  by_antenna zero x y f = f
  by_antenna (suc i) x y f = by_step (pair x y) Antenna (by_antenna i x (stepped ja false y) f)

not_full : (e : ℕ) (queue : List ℕ) → length queue ≡ 0 → full e queue ≡ false
not_full e queue h = lt-leb (2 ^ e) (length queue) (omega (arith, below_capacity e))

module _ (n : ℕ) (accepts : Bool) (jg ja : Job) (small-g : jg.exponent ≤ 4) (small-a : ja.exponent ≤ 4) (keeps-g : Keeps jg)
    (keeps-a : Keeps ja) (σ τ : Tally) where
  abbrev Bo : ℕ → Pair → Type 0
  Bo c p = Both n accepts jg ja small-g small-a keeps-g keeps-a c σ τ p

  gate_steps : (i c : ℕ) (x y : End) → Bo c (pair x y) → Bo c (pair (steps jg i x) y)
  unfolding steps
  gate_steps zero c x y b = b
  gate_steps (suc i) c x y b =
      gate_steps i c (stepped jg false x) y
      (both_gate_step n accepts jg ja small-g small-a keeps-g keeps-a c σ τ (pair x y) false b)

  antenna_steps : (i c : ℕ) (x y : End) → Bo c (pair x y) → Bo c (pair x (steps ja i y))
  unfolding steps
  antenna_steps zero c x y b = b
  antenna_steps (suc i) c x y b =
      antenna_steps i c x (stepped ja false y)
      (both_antenna_step n accepts jg ja small-g small-a keeps-g keeps-a c σ τ (pair x y) false b)

  module _ (a : accepts ≡ true) (pos-g : 1 < 2 ^ jg.exponent) (pos-a : 1 < 2 ^ ja.exponent) (calm-g : σ.flags ≡ 0)
      (calm-a : τ.flags ≡ 0) where
    -- both have settled: both are over, or both wait for a clock
    settled : (c : ℕ) (x y : End) → Bo c (pair x y) → Settled n c x → Settled n c y
        → (c < n → length x.wire.receive ≡ 0 → length y.wire.receive ≡ 0 → 0 < length (words_in x.wire.transmit)
        → 0 < length (words_in y.wire.transmit) → Finishes jg ja (pair x y))
        → Finishes jg ja (pair x y)
    unfolding after
    settled c x y b (over h) (over h') go = record { events = []; plain = tt; gate = h; antenna = h' }
    settled c x y b (over h) (waits l e f) go =
        let k = ok_facts n accepts jg (own ja) c τ.made_up σ x b.gate h in
        absurd (omega (arith, k.0.out_eq, k.1, k.3, b.gate.base.made_le, words_most x.wire.transmit))
    settled c x y b (waits l e f) (over h) go =
        let k = ok_facts n accepts ja (own jg) c 0 τ y b.antenna h in
        absurd (omega (arith, k.0.out_eq, k.1, k.3, b.antenna.base.made_le, words_most y.wire.transmit))
    settled c x y b (waits l e f) (waits l' e' f') go = go l e e' f f'

    -- a clock that loses nothing and makes nothing up
    ticked : (c : ℕ) (p : Pair) (ours theirs : List ℕ) → words_in p.gate.wire.transmit ≡ ours
        → words_in p.antenna.wire.transmit ≡ theirs
        → 0 < length ours → 0 < length theirs
        → length p.gate.wire.receive ≡ 0 → length p.antenna.wire.receive ≡ 0 → Bo c p → Bo (suc c) (clocked_by jg ja ours theirs p)
    ticked c p [] theirs eg ea hg ha rg ra b = absurd (omega arith)
    ticked c p (v ∷ ours) [] eg ea hg ha rg ra b = absurd (omega arith)
    ticked c p (v ∷ ours) (u ∷ theirs) eg ea hg ha rg ra b =
        rw (not_full jg.exponent p.gate.wire.receive rg, not_full ja.exponent p.antenna.wire.receive ra) at
        (both_clocked n accepts jg ja small-g small-a keeps-g keeps-a c σ τ p v u ours theirs eg ea b)

    gate_leads : (c : ℕ) (p : Pair) → Bo c p → Leads n c jg p.gate
    gate_leads c p b =
        let x = p.gate in
        leads n accepts jg (own ja) small-g keeps-g c τ.made_up σ calm-g pos-g a x.transfer.phase x.flush
        x.transfer.work x.transfer.reset x.received x.wire x.registers
        b.gate.base b.gate.now

    antenna_leads : (c : ℕ) (p : Pair) → Bo c p → Leads n c ja p.antenna
    antenna_leads c p b =
        let x = p.antenna in
        leads n accepts ja (own jg) small-a keeps-a c 0 τ calm-a pos-a a x.transfer.phase x.flush x.transfer.work
        x.transfer.reset x.received x.wire x.registers
        b.antenna.base b.antenna.now

    -- with at most i clocks to come
    pub finish : (i c : ℕ) (p : Pair) → n ≤ c + i → Bo c p → Finishes jg ja p
    unfolding happened
    finish zero c p z b =
        let k = gate_leads c p b in
        let l = antenna_leads c p b in
        let x = steps jg k.count p.gate in
        let y = steps ja l.count p.antenna in
        by_gate jg ja k.count p.gate p.antenna
        (by_antenna jg ja l.count x p.antenna
        (settled c x y (antenna_steps l.count c x p.antenna (gate_steps k.count c p.gate p.antenna b))
        k.settled l.settled (λ h a b d e. absurd (omega arith))))
    finish (suc i) c p z b =
        let k = gate_leads c p b in
        let l = antenna_leads c p b in
        let x = steps jg k.count p.gate in
        let y = steps ja l.count p.antenna in
        let b' : Bo c (pair x y) = antenna_steps l.count c x p.antenna (gate_steps k.count c p.gate p.antenna b) in
        by_gate jg ja k.count p.gate p.antenna
        (by_antenna jg ja l.count x p.antenna
        (settled c x y b' k.settled l.settled
        (λ h rg ra tg ta. by_clock jg ja (pair x y)
        (finish i (suc c) (clocked_by jg ja (words_in x.wire.transmit) (words_in y.wire.transmit) (pair x y)) (omega arith)
        (ticked c (pair x y) (words_in x.wire.transmit) (words_in y.wire.transmit) refl refl tg ta rg ra b')))))
