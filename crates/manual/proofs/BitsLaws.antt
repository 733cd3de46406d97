-- Bits that were set are read back, and all others are as they were.
-- Assumes nothing.
use Prim.Native.Nat.{ℕ, ◌+◌, ◌*◌, ◌-◌, ◌/◌, ◌%◌, ◌^◌, ◌≤◌}
use mathlib.Core.Path.{◌≡◌, sym, ap, ◌∙◌, subst}
use native.Mathlib.Nat.{mod-lt}
use native.Mathlib.Omega.{arith}
use lib.Pow.{pow_pos, high, low, shr-shr, mod-mod-pow, field}
use Rattle.manual.specs.Bits.{get_bits, set_bits}

-- the bits below p, and those from p on
set_below : (p n v w : ℕ) → set_bits p n v w % 2 ^ p ≡ w % 2 ^ p
set_below p n v w = low (w / 2 ^ p / 2 ^ n * 2 ^ n + v % 2 ^ n) p (mod-lt w (pow_pos p))

set_from : (p n v w : ℕ) → set_bits p n v w / 2 ^ p ≡ w / 2 ^ p / 2 ^ n * 2 ^ n + v % 2 ^ n
set_from p n v w = high (w / 2 ^ p / 2 ^ n * 2 ^ n + v % 2 ^ n) p (mod-lt w (pow_pos p))

-- READ BACK: the value, masked to the width
pub get_set : (p n v w : ℕ) → get_bits p n (set_bits p n v w) ≡ v % 2 ^ n
get_set p n v w = rw set_from (low (w / 2 ^ p / 2 ^ n) n (mod-lt v (pow_pos n)))

-- bits below p are among those below p, and bits from p + n on among those above
get_low : (p w q m : ℕ) → q + m ≤ p → get_bits q m w ≡ get_bits q m (w % 2 ^ p)
get_low p w q m h =
    let e : p ≡ p - (m + q) + (m + q) = omega arith in
    let same : w % 2 ^ p % 2 ^ (m + q) ≡ w % 2 ^ (m + q) =
    subst (λ (k : ℕ). w % 2 ^ k % 2 ^ (m + q) ≡ w % 2 ^ (m + q)) (sym e) (mod-mod-pow w (p - (m + q)) (m + q)) in
    sym (field w m q) ∙ ap (λ (x : ℕ). x / 2 ^ q) (sym same) ∙ field (w % 2 ^ p) m q

get_high : (p n w q m : ℕ) → p + n ≤ q → get_bits q m w ≡ w / 2 ^ p / 2 ^ n / 2 ^ (q - (p + n)) % 2 ^ m
get_high p n w q m h =
    let e : q ≡ p + n + (q - (p + n)) = omega arith in
    rw (shr-shr w p n, shr-shr w (p + n) (q - (p + n)), ← e)

-- OTHERS KEPT: bits that lie below those set, and bits that lie above
pub get_set_below : (p n v w q m : ℕ) → q + m ≤ p → get_bits q m (set_bits p n v w) ≡ get_bits q m w
get_set_below p n v w q m h =
    get_low p (set_bits p n v w) q m h ∙ ap (get_bits q m) (set_below p n v w) ∙ sym (get_low p w q m h)

pub get_set_above : (p n v w q m : ℕ) → p + n ≤ q → get_bits q m (set_bits p n v w) ≡ get_bits q m w
get_set_above p n v w q m h =
    get_high p n (set_bits p n v w) q m h
    ∙ ap (λ (x : ℕ). x / 2 ^ (q - (p + n)) % 2 ^ m)
    (ap (λ (x : ℕ). x / 2 ^ n) (set_from p n v w) ∙ high (w / 2 ^ p / 2 ^ n) n (mod-lt v (pow_pos n)))
    ∙ sym (get_high p n w q m h)
