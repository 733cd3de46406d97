-- How far a wrong source figure moves the divider of the first clock entry (document 02, No. 13), for all natural numbers: both orders of
-- the figures, clamps included. SCKDIV is as read from the answered word.
-- Assumes nothing.
use Prim.Native.Nat.{ℕ, ◌+◌, ◌*◌, ◌-◌, ◌/◌, ◌<◌, ◌≤◌}
use mathlib.Core.Bool.{Bool, true, false}
use mathlib.Core.Path.{◌≡◌, refl, ap}
use native.Mathlib.Nat.{mul-add, mul_comm, mul-le-mul_left, le_trans, div-lt_iff_lt-mul, le-div_iff_mul-le, div-mul-le_self, lt-div-mul-add}
use native.Mathlib.Omega.{arith}
use lib.Dec.{leb}
use borrow.Author.Tests.{leb-true, leb-false}
use Rattle.manual.specs.declared.Ccr.TheVariants.{SCKDIV}
use Rattle.manual.specs.declared.Field.TheVariants.{Ccr}
use Rattle.manual.specs.Manual.{read_field}
use Rattle.words.specs.Clock.{SckAtMost}
use Rattle.words.specs.Tolerance.{word_for, distance, Tolerance}
use Rattle.words.proofs.ClockLaws.{clocked_reads, sck_at_most}

-- a quotient grows by at most the growth's quotient and one
quotient_grows : (m s d : ℕ) → 0 < m → (s + d) / m ≤ s / m + d / m + 1
quotient_grows m s d h =
    let a = lt-div-mul-add {a = s} {b = m} h in
    let b = lt-div-mul-add {a = d} {b = m} h in
    let l : (s + d) / m < s / m + d / m + 2 = (div-lt_iff_lt-mul {k = m} h).1 (omega (arith, a, b, spread (s / m) (d / m))) in
    omega (arith, l)
  where
    spread : (q r : ℕ) → (q + r + 2) * m ≡ q * m + r * m + 2 * m
    spread q r = omega (arith, mul_comm (q + r + 2) m, mul-add m (q + r) 2, mul-add m q r, mul_comm m q, mul_comm m r)

abbrev sckdiv_of : ℕ → ℕ → ℕ
sckdiv_of source clock = read_field (Ccr SCKDIV) (word_for source clock)

-- a larger figure
module _ (c s t : ℕ) (hc : 0 < c) (hs : 0 < s) (l : s ≤ t) where
  quotient_ordered : (s - 1) / (2 * c) ≤ (t - 1) / (2 * c)
  quotient_ordered = (le-div_iff_mul-le {k = 2 * c} (omega arith)).1 (omega (arith, div-mul-le_self (s - 1) (2 * c)))

  quotient_bounded : (t - 1) / (2 * c) ≤ (s - 1) / (2 * c) + (t - s) / (2 * c) + 1
  quotient_bounded =
      let e : t - 1 ≡ (s - 1) + (t - s) = omega arith in
      let g = quotient_grows (2 * c) (s - 1) (t - s) (omega arith) in
      rw e g

  never_smaller : sckdiv_of s c ≤ sckdiv_of t c
  never_smaller = rw ((clocked_reads s c hs hc).sckdiv, (clocked_reads t c (omega arith) hc).sckdiv) (omega (arith, quotient_ordered))

  not_further : sckdiv_of t c ≤ sckdiv_of s c + 2 * ((t - s) / (2 * c) + 1)
  not_further =
      rw ((clocked_reads s c hs hc).sckdiv, (clocked_reads t c (omega arith) hc).sckdiv) (omega (arith, quotient_ordered, quotient_bounded))

module _ (c s t : ℕ) (hc : 0 < c) (hs : 0 < s) (ht : 0 < t) where
  in_bound : distance (sckdiv_of s c) (sckdiv_of t c) ≤ 2 * (distance s t / (2 * c) + 1)
  in_bound = by_order (leb s t) refl
    where
      by_order : (b : Bool) → leb s t ≡ b → distance (sckdiv_of s c) (sckdiv_of t c) ≤ 2 * (distance s t / (2 * c) + 1)
      by_order true e =
          let l = leb-true s t e in
          let d : distance s t ≡ t - s = omega arith in
          rw d (omega (arith, never_smaller c s t hc hs l, not_further c s t hc hs l))
      by_order false e =
          let l : t ≤ s = omega (arith, leb-false s t e) in
          let d : distance s t ≡ s - t = omega arith in
          rw d (omega (arith, never_smaller c t s hc ht l, not_further c t s hc ht l))

  -- THE TOLERANCE of the words that the first clock entry answers. `omega` compares the bound with the proved one, so that a smaller bound
  -- is refused as a number (edit `tolerance_without_step`)
  pub tolerance : Tolerance c s t (word_for s c) (word_for t c)
  tolerance = record {
    bounded = le_trans in_bound (omega arith);
    agreed = λ e. ap (λ (x : ℕ). word_for x c) e;
    ordered = λ l. never_smaller c s t hc hs l;
  }

-- A FIGURE t THAT IS TOO HIGH is on the safe side: SCK of the true source s, s ≤ 256c, is at most the wanted clock
pub figure_above : (c s t : ℕ) → 0 < c → 0 < s → s ≤ t → s ≤ 256 * c → SckAtMost s (word_for t c) c
figure_above c s t hc hs l h = le_trans ((sck_at_most s c hs hc).1 h) (mul-le-mul_left c (omega (arith, never_smaller c s t hc hs l)))
