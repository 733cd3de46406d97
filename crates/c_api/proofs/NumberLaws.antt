-- The numbers of a host. The driver's word: a run that ends with the driver value it was given leaves the word as found, its upper bits
-- too; and the next run takes the value that was left. CCR's word: it gives the clock that it was made of. Assumes nothing.
use Prim.Native.Nat.{ℕ, zero, suc, ◌+◌, ◌*◌, ◌/◌, ◌%◌, ◌<◌}
use mathlib.Core.Bool.{cond}
use mathlib.Core.List.{List, []}
use mathlib.Core.Path.{◌≡◌, refl, ap, ap₂, ◌∙◌}
use native.Mathlib.Omega.{arith}
use lib.Dec.{eqb, lit<}
use Rattle.words.specs.declared.clock.ClockConfigs.{ClockConfigs}
use Rattle.words.specs.declared.order.BitOrder.{BitOrder}
use Rattle.words.specs.declared.order.BitOrder.TheVariants.{Msb, Lsb}
use Rattle.words.specs.declared.mode.Polarity.{Polarity}
use Rattle.words.specs.declared.mode.Polarity.TheVariants.{IdleLow, IdleHigh}
use Rattle.words.specs.declared.mode.Phase.{Phase}
use Rattle.words.specs.declared.mode.Phase.TheVariants.{CaptureOnFirstTransition, CaptureOnSecondTransition}
use Rattle.words.specs.declared.mode.Pcs.{Pcs}
use Rattle.words.specs.declared.mode.Pcs.TheVariants.{Pcs0, Pcs1, Pcs2, Pcs3}
use Rattle.words.specs.Clock.{clock_word}
use Rattle.words.specs.Command.{lsbf_of, cpol_of, cpha_of, pcs_of}
use Rattle.words.proofs.ClockLaws.{clock_reads}
use Rattle.sequences.specs.Access.{Ending}
use Rattle.sequences.specs.declared.driver.Lpspi.{Lpspi}
use Rattle.sequences.specs.Access.{number_of}
use Rattle.runs.specs.Run.{Left, left}
use Rattle.transfers.specs.Transfers.{TransferLeft}
use Rattle.c_api.specs.Host.{order_from, polarity_from, phase_from, pcs_from}
use Rattle.c_api.specs.HostRun.{driver_of, driver_left, host_left, of_transfer, of_call}
use Rattle.c_api.specs.HostCall.{clock_from}

-- the numbers of what was made of a number
order_number : (n : ℕ) → lsbf_of (order_from (eqb (n % 2) 1)) ≡ n % 2
order_number n = by_bit (n % 2) (omega arith)
  where
    by_bit : (b : ℕ) → b < 2 → lsbf_of (order_from (eqb b 1)) ≡ b
    by_bit zero h = refl
    by_bit (suc zero) h = refl
    by_bit (suc (suc b)) h = absurd (omega arith)

polarity_number : (n : ℕ) → cpol_of (polarity_from n) ≡ n / 2 % 2
polarity_number n = by_bit (n / 2 % 2) (omega arith)
  where
    by_bit : (b : ℕ) → b < 2 → cpol_of (cond (eqb b 0) IdleLow IdleHigh) ≡ b
    by_bit zero h = refl
    by_bit (suc zero) h = refl
    by_bit (suc (suc b)) h = absurd (omega arith)

phase_number : (n : ℕ) → cpha_of (phase_from n) ≡ n % 2
phase_number n = by_bit (n % 2) (omega arith)
  where
    by_bit : (b : ℕ) → b < 2 → cpha_of (cond (eqb b 0) CaptureOnFirstTransition CaptureOnSecondTransition) ≡ b
    by_bit zero h = refl
    by_bit (suc zero) h = refl
    by_bit (suc (suc b)) h = absurd (omega arith)

pcs_number : (n : ℕ) → pcs_of (pcs_from n) ≡ n % 4
pcs_number n = by_select (n % 4) (omega arith)
  where
    by_select : (s : ℕ) → s < 4 → pcs_of (cond (eqb s 0) Pcs0 (cond (eqb s 1) Pcs1 (cond (eqb s 2) Pcs2 Pcs3))) ≡ s
    by_select zero h = refl
    by_select (suc zero) h = refl
    by_select (suc (suc zero)) h = refl
    by_select (suc (suc (suc zero))) h = refl
    by_select (suc (suc (suc (suc s)))) h = absurd (omega arith)

-- a word of these parts
joined : (e d₀ c₁ c₀ b₀ a₀ w₀ : ℕ) {w a b c d : ℕ} → a * 256 + w₀ ≡ w → b * 256 + a₀ ≡ a → c * 4 + b₀ ≡ b
    → d * 4 + (c₁ * 2 + c₀) ≡ c → e * 2 + d₀ ≡ d
    → e * 0x200000 + ((((d₀ * 4 + (c₁ * 2 + c₀)) * 4 + b₀) * 256 + a₀) * 256 + w₀) ≡ w
joined e d₀ c₁ c₀ b₀ a₀ w₀ p q r s t = omega arith

-- AS FOUND
pub as_found : (word : ℕ) → driver_left word (driver_of word) ≡ word
as_found w =
    let sckdiv : w / 0x100 * 256 + w % 256 ≡ w = omega arith in
    let dbt : w / 0x10000 * 256 + w / 0x100 % 256 ≡ w / 0x100 = omega arith in
    let pcs : w / 0x40000 * 4 + w / 0x10000 % 4 ≡ w / 0x10000 = omega arith in
    let mode : w / 0x100000 * 4 + (w / 0x40000 / 2 % 2 * 2 + w / 0x40000 % 2) ≡ w / 0x40000 = omega arith in
    let order : w / 0x200000 * 2 + w / 0x100000 % 2 ≡ w / 0x100000 = omega arith in
    rw (order_number (w / 0x100000), polarity_number (w / 0x40000), phase_number (w / 0x40000), pcs_number (w / 0x10000))
    (joined (w / 0x200000) (w / 0x100000 % 2) (w / 0x40000 / 2 % 2) (w / 0x40000 % 2) (w / 0x10000 % 4) (w / 0x100 % 256)
    (w % 256) sckdiv dbt pcs mode order)

-- by a run
module _ (word : ℕ) where
  pub transfer_as_found : (t : TransferLeft) → t.call.result.driver ≡ driver_of word → (of_transfer word t).driver ≡ word
  transfer_as_found t e = ap (driver_left word) e ∙ as_found word

  pub call_as_found : (c : Left) → c.result.driver ≡ driver_of word → (of_call word c).driver ≡ word
  call_as_found c e = ap (driver_left word) e ∙ as_found word

  -- by a refusal, numbers 5, 1 and 6
  pub refused_as_found : (e : Ending) (log : List ℕ)
      → of_call word (left (record { ending = e; accesses = 0; answers = 0; driver = driver_of word }) log)
      ≡ host_left (number_of e) word 0 0 log []
  refused_as_found e log = ap (λ (w : ℕ). host_left (number_of e) w 0 0 log []) (as_found word)

-- READ BACK: the next run takes the driver value that was left
order_back : (o : BitOrder) {n : ℕ} → n ≡ lsbf_of o → order_from (eqb n 1) ≡ o
order_back Msb e = rw e
order_back Lsb e = rw e

polarity_back : (p : Polarity) {n : ℕ} → n ≡ cpol_of p → cond (eqb n 0) IdleLow IdleHigh ≡ p
polarity_back IdleLow e = rw e
polarity_back IdleHigh e = rw e

phase_back : (p : Phase) {n : ℕ} → n ≡ cpha_of p → cond (eqb n 0) CaptureOnFirstTransition CaptureOnSecondTransition ≡ p
phase_back CaptureOnFirstTransition e = rw e
phase_back CaptureOnSecondTransition e = rw e

pcs_back : (p : Pcs) {n : ℕ} → n ≡ pcs_of p → cond (eqb n 0) Pcs0 (cond (eqb n 1) Pcs1 (cond (eqb n 2) Pcs2 Pcs3)) ≡ p
pcs_back Pcs0 e = rw e
pcs_back Pcs1 e = rw e
pcs_back Pcs2 e = rw e
pcs_back Pcs3 e = rw e

order_lt : (o : BitOrder) → lsbf_of o < 2
order_lt Msb = lit< tt
order_lt Lsb = lit< tt

polarity_lt : (p : Polarity) → cpol_of p < 2
polarity_lt IdleLow = lit< tt
polarity_lt IdleHigh = lit< tt

phase_lt : (p : Phase) → cpha_of p < 2
phase_lt CaptureOnFirstTransition = lit< tt
phase_lt CaptureOnSecondTransition = lit< tt

pcs_lt : (p : Pcs) → pcs_of p < 4
pcs_lt Pcs0 = lit< tt
pcs_lt Pcs1 = lit< tt
pcs_lt Pcs2 = lit< tt
pcs_lt Pcs3 = lit< tt

abbrev made : BitOrder → Polarity → Phase → Pcs → ℕ → ℕ → Lpspi
made o p h s b v = record { order = o; mode = record { polarity = p; phase = h }; pcs = s; cache = record { dbt = b; sckdiv = v } }

-- where each part stands
record Parts (w o p h s b v : ℕ) : Type 0 where
  order : w / 0x100000 % 2 ≡ o
  polarity : w / 0x40000 / 2 % 2 ≡ p
  phase : w / 0x40000 % 2 ≡ h
  pcs : w / 0x10000 % 4 ≡ s
  dbt : w / 0x100 % 256 ≡ b
  sckdiv : w % 256 ≡ v

parts : (e o p h s b v : ℕ) → o < 2 → p < 2 → h < 2 → s < 4 → b < 256 → v < 256
    → Parts (e * 0x200000 + ((((o * 4 + (p * 2 + h)) * 4 + s) * 256 + b) * 256 + v)) o p h s b v
parts e o p h s b v ho hp hh hs hb hv = record {
  order = omega arith;
  polarity = omega arith;
  phase = omega arith;
  pcs = omega arith;
  dbt = omega arith;
  sckdiv = omega arith;
}

alike : {o o' : BitOrder} {p p' : Polarity} {h h' : Phase} {s s' : Pcs} {b b' v v' : ℕ} → o ≡ o' → p ≡ p' → h ≡ h'
    → s ≡ s' → b ≡ b' → v ≡ v'
    → made o p h s b v ≡ made o' p' h' s' b' v'
alike {o} {o'} {p} {p'} {h} {h'} {s} {s'} {b} {b'} {v} {v'} eo ep eh es eb ev =
    ap₂ (λ (x : BitOrder) (y : Polarity). made x y h s b v) eo ep
    ∙ ap₂ (λ (x : Phase) (y : Pcs). made o' p' x y b v) eh es
    ∙ ap₂ (λ (x y : ℕ). made o' p' h' s' x y) eb ev

pub driver_back : (word : ℕ) (d : Lpspi) → d.cache.dbt < 256 → d.cache.sckdiv < 256 → driver_of (driver_left word d) ≡ d
driver_back word d hb hv =
    let o = d.order in
    let p = d.mode.polarity in
    let h = d.mode.phase in
    let s = d.pcs in
    let r =
    parts (word / 0x200000) (lsbf_of o) (cpol_of p) (cpha_of h) (pcs_of s) d.cache.dbt d.cache.sckdiv (order_lt o)
    (polarity_lt p) (phase_lt h) (pcs_lt s) hb hv in
    alike (order_back o r.order) (polarity_back p r.polarity) (phase_back h r.phase) (pcs_back s r.pcs) r.dbt r.sckdiv

-- READ BACK, of any four bytes
pub clock_back : (c : ClockConfigs) → c.sckpcs < 256 → c.pcssck < 256 → c.dbt < 256 → c.sckdiv < 256 → clock_from (clock_word c) ≡ c
clock_back c hs hp hd hv = let r = clock_reads c hs hp hd hv in four r.sckpcs r.pcssck r.dbt r.sckdiv
  where
    four : {s p d v : ℕ} → s ≡ c.sckpcs → p ≡ c.pcssck → d ≡ c.dbt → v ≡ c.sckdiv
        → ◌≡◌ {A = ClockConfigs} (record { sckpcs = s; pcssck = p; dbt = d; sckdiv = v }) c
    four {s} {p} es ep ed ev =
        ap₂ (λ (d v : ℕ). record { sckpcs = s; pcssck = p; dbt = d; sckdiv = v }) ed ev
        ∙ ap₂ (λ (s p : ℕ). record { sckpcs = s; pcssck = p; dbt = c.dbt; sckdiv = c.sckdiv }) es ep
