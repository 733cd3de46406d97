-- The clock word that is answered reads back as what was asked; and SCK is at most the wanted clock exactly when the source is at most 256
-- times that clock.
-- Assumes nothing.
use Prim.Native.Nat.{ℕ, ◌+◌, ◌*◌, ◌-◌, ◌/◌, ◌<◌, ◌≤◌}
use mathlib.Core.Bool.{Bool, true, false, cond}
use mathlib.Core.List.{List, [], ◌∷◌}
use mathlib.Core.Logic.{◌↔◌}
use mathlib.Core.Path.{◌≡◌, ◌∙◌}
use native.Mathlib.Nat.{mod-eq_of_lt, mul-le-mul_left, le_trans, div-lt_iff_lt-mul, lt-div-mul-add}
use native.Mathlib.Nat.{mul_comm, mul_assoc, mul-add, mul_left_comm}
use native.Mathlib.Omega.{arith}
use Rattle.manual.specs.declared.Ccr.TheVariants.{SCKDIV, DBT, PCSSCK, SCKPCS}
use Rattle.manual.specs.declared.Field.TheVariants.{Ccr}
use Rattle.manual.specs.Manual.{read_field, Setting}
use Rattle.manual.proofs.ManualLaws.{read_all}
use Rattle.words.specs.declared.clock.ClockConfigs.{ClockConfigs}
use borrow.Author.Tests.{ne_eqb}
use lib.Dec.{eqb}
use Rattle.words.specs.Clock.{half_divider, configs_of, ClockAnswer, zero_clock, clocked, clock_word, SckAtMost}

-- the four fields of CCR in a word
pub record ClockReads (w : ℕ) (c : ClockConfigs) : Type 0 where
  pub sckdiv : read_field (Ccr SCKDIV) w ≡ c.sckdiv
  pub dbt : read_field (Ccr DBT) w ≡ c.dbt
  pub pcssck : read_field (Ccr PCSSCK) w ≡ c.pcssck
  pub sckpcs : read_field (Ccr SCKPCS) w ≡ c.sckpcs

settings : ClockConfigs → List Setting
settings c = (Ccr SCKPCS, c.sckpcs) ∷ (Ccr PCSSCK, c.pcssck) ∷ (Ccr DBT, c.dbt) ∷ (Ccr SCKDIV, c.sckdiv) ∷ []

-- READ BACK, of any four bytes
pub clock_reads : (c : ClockConfigs) → c.sckpcs < 256 → c.pcssck < 256 → c.dbt < 256 → c.sckdiv < 256 → ClockReads (clock_word c) c
unfolding settings
clock_reads c hs hp hd hv = record {
  sckdiv = read_all (Ccr SCKDIV) (settings c) 0 tt ∙ mod-eq_of_lt hv;
  dbt = read_all (Ccr DBT) (settings c) 0 tt ∙ mod-eq_of_lt hd;
  pcssck = read_all (Ccr PCSSCK) (settings c) 0 tt ∙ mod-eq_of_lt hp;
  sckpcs = read_all (Ccr SCKPCS) (settings c) 0 tt ∙ mod-eq_of_lt hs;
}

computed : (source clock : ℕ) → 0 < source → 0 < clock
    → clocked source clock ≡ record { number = 0; configs = configs_of (half_divider source clock) }
computed source clock hs hc = simp (ne_eqb source 0 (λ (e : source ≡ 0). omega arith), ne_eqb clock 0 (λ (e : clock ≡ 0). omega arith))

-- where neither is 0 the answer is Ok
pub clocked_ok : (source clock : ℕ) → 0 < source → 0 < clock → (clocked source clock).number ≡ 0
clocked_ok source clock hs hc = rw (computed source clock hs hc)

-- DBT and SCKDIV fit a byte, whatever the answer
pub clocked_fits : (source clock : ℕ) → ((clocked source clock).configs.dbt < 256) × ((clocked source clock).configs.sckdiv < 256)
clocked_fits source clock = by_tests (eqb source 0) (eqb clock 0)
  where
    answer : Bool → Bool → ClockAnswer
    answer a b =
        cond a (zero_clock)
        (cond b (zero_clock) (record { number = 0; configs = configs_of (half_divider source clock) }))

    by_tests : (a b : Bool) → ((answer a b).configs.dbt < 256) × ((answer a b).configs.sckdiv < 256)
    by_tests true b = (omega arith, omega arith)
    by_tests false true = (omega arith, omega arith)
    by_tests false false = (omega arith, omega arith)

-- READ BACK, of the clock that is answered: SCKDIV = 2(h − 1), the others h − 1
pub clocked_reads : (source clock : ℕ) → 0 < source → 0 < clock
    → ClockReads (clock_word (clocked source clock).configs) (configs_of (half_divider source clock))
clocked_reads source clock hs hc =
    rw (computed source clock hs hc)
    (clock_reads (configs_of (half_divider source clock)) (omega arith) (omega arith) (omega arith) (omega arith))

-- SCK AT MOST THE WANTED CLOCK, exactly when source ≤ 256 × clock
pub sck_at_most : (source clock : ℕ) → 0 < source → 0 < clock
    → SckAtMost source (clock_word (clocked source clock).configs) clock ↔ (source ≤ 256 * clock)
sck_at_most s c hs hc = (λ h. to (rw (clocked_reads s c hs hc).sckdiv at h), λ h. rw (clocked_reads s c hs hc).sckdiv (from h))
  where
    to : s ≤ c * (2 * (half_divider s c - 1) + 2) → s ≤ 256 * c
    to h = rw mul_comm (le_trans h (mul-le-mul_left c (omega arith)))

    -- the quotient that is not clamped, and the source that it covers
    covers : (q : ℕ) → s - 1 < q * (2 * c) + 2 * c → s ≤ c * (2 * q + 2)
    covers q h = omega (arith, mul_comm q (2 * c), mul_assoc 2 c q, mul-add c (2 * q) 2, mul_left_comm c 2 q)

    from : s ≤ 256 * c → s ≤ c * (2 * (half_divider s c - 1) + 2)
    from h =
        let small : (s - 1) / (2 * c) < 128 = (div-lt_iff_lt-mul {k = 2 * c} (omega arith)).1 (omega arith) in
        le_trans (covers ((s - 1) / (2 * c)) (lt-div-mul-add (omega arith))) (mul-le-mul_left c (omega arith))
