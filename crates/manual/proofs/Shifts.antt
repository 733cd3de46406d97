-- Shifts and masks of a u32, as the products, quotients and remainders that the definitions have.
-- Assumes nothing.
use Prim.Native.Nat.{ℕ, ◌+◌, ◌*◌, ◌-◌, ◌/◌, ◌%◌, ◌^◌, ◌<◌, ◌≤◌}
use mathlib.Core.Path.{◌≡◌, ◌∙◌, subst}
use native.Mathlib.Nat.{one-mul, mod-lt}
use native.Mathlib.Omega.{arith}
use lib.Arith.{digits_lt}
use lib.Bits.{bit_and, bit_or, or_shifted, and_mask}
use lib.Dec.{lit<}
use lib.Pow.{pow_pos, pow-add, shl_exact, shr_lt, shr-shr}
use Rattle.manual.specs.Bits.{set_bits}

-- 1 << k
pub one_shl : (k : ℕ) → k < 32 → 1 * 2 ^ k % 2 ^ 32 ≡ 2 ^ k
one_shl k h = shl_exact {a = 1} 1 k 32 (lit< tt) (omega arith) ∙ one-mul (2 ^ k)

-- (a << k) | b, where a has j bits and b has k
pub shl_or : (a b j k : ℕ) → a < 2 ^ j → b < 2 ^ k → j + k ≤ 32 → bit_or (a * 2 ^ k % 2 ^ 32) b ≡ a * 2 ^ k + b
shl_or a b j k ha hb h = rw (shl_exact j k 32 ha h) (or_shifted a k b hb)

-- w & ((1 << k) - 1)
pub low_bits : (w k : ℕ) → k < 32 → bit_and w (1 * 2 ^ k % 2 ^ 32 - 1) ≡ w % 2 ^ k
low_bits w k h = rw (one_shl k h) (and_mask w k)

-- the subtraction in such a mask
pub mask_pos : (k : ℕ) → k < 32 → 1 ≤ 1 * 2 ^ k % 2 ^ 32
mask_pos k h = rw (one_shl k h) (pow_pos k)

-- the code of `set_bits`
module _ (w p n v : ℕ) (hw : w < 2 ^ 32) (hm : n < 32) (hp : p + n ≤ 32) (hl : p < 32) where
  high_lt : w / 2 ^ p / 2 ^ n < 2 ^ (32 - (p + n))
  high_lt =
      let e : 32 ≡ 32 - (p + n) + (p + n) = omega arith in
      rw shr-shr (shr_lt (32 - (p + n)) (p + n) (subst (λ (k : ℕ). w < 2 ^ k) e hw))

  above_lt : w / 2 ^ p / 2 ^ n * 2 ^ n + v % 2 ^ n < 2 ^ (32 - (p + n) + n)
  above_lt = rw pow-add (digits_lt high_lt (mod-lt v (pow_pos n)))

  pub set_bits_eq : bit_or (bit_or (w / 2 ^ p / 2 ^ n * 2 ^ n % 2 ^ 32) (bit_and v (1 * 2 ^ n % 2 ^ 32 - 1)) * 2 ^ p % 2 ^ 32)
      (bit_and w (1 * 2 ^ p % 2 ^ 32 - 1))
      ≡ set_bits p n v w
  set_bits_eq =
      rw (
        low_bits v n hm,
        low_bits w p hl,
        shl_or (w / 2 ^ p / 2 ^ n) (v % 2 ^ n) (32 - (p + n)) n high_lt (mod-lt v (pow_pos n)) (omega arith),
      )
      (shl_or (w / 2 ^ p / 2 ^ n * 2 ^ n + v % 2 ^ n) (w % 2 ^ p) (32 - (p + n) + n) p above_lt (mod-lt w (pow_pos p)) (omega arith))
