-- Numbers of digits: one more digit, the end, and how large a number is.
-- Assumes nothing.
use Rattle.std.proofs.Common.{ℕ, suc, ◌+◌, ◌*◌, ◌^◌, ◌<◌, ◌≤◌, ◌≡◌, Bool, true, false, List, [], ◌∷◌, Option, Some, None}
use Rattle.std.proofs.Common.{length, get_or, drop, ltb, refl, subst, arith, drop-cons, add-zero}
use Rattle.std.proofs.Math.Nat.{mul-le-mul_left, mul-one, pow-suc, pow-le-pow_right}
use borrow.Author.Tests.{lt-ltb, le-ltb, ltb-true}
use Rattle.lines.specs.Text.{bind, only, digit, digit_in, numeral_from, numeral}
use Rattle.lines.specs.Grammar.{small}

-- a number that is too large stays so
number_large : (base n : ℕ) (xs : List ℕ) → 0 < base → 2 ^ 32 ≤ n → bind (numeral_from base n xs) small ≡ None
number_large base n [] h l = rw (le-ltb n (2 ^ 32) l)
number_large base n (x ∷ xs) h l =
    by_digit (digit_in base x) (λ d. number_large base (n * base + d) xs h (omega (arith, mul-le-mul_left n h, mul-one n)))
  where
    by_digit : (o : Option ℕ) → ((d : ℕ) → bind (numeral_from base (n * base + d) xs) small ≡ None)
        → bind (bind o (λ d. numeral_from base (n * base + d) xs)) small ≡ None
    by_digit None f = refl
    by_digit (Some d) f = f d

-- a digit more, and the number is too large
pub too_large : (base n : ℕ) (xs : List ℕ) (i d : ℕ) → i < length xs → 0 < base → digit_in base (get_or xs i 0) ≡ Some d
    → 2 ^ 32 ≤ n * base + d → bind (numeral_from base n (drop i xs)) small ≡ None
too_large base n xs i d h b e l = rw (drop-cons xs i 0, e) (number_large base (n * base + d) (drop (suc i) xs) b l)

-- a number of hexadecimal digits
number_below : (n j x : ℕ) (xs : List ℕ) → n < 16 ^ j → numeral_from 16 n xs ≡ Some x → x < 16 ^ (j + length xs)
number_below n j x [] l e = rw add-zero (let m : n ≡ x = cc in subst (λ (y : ℕ). y < 16 ^ j) m l)
number_below n j x (b ∷ bs) l e = by_digit (digit b) (λ d h q.
    let m : suc j + length bs ≡ j + suc (length bs) = omega arith in
    subst (λ (i : ℕ). x < 16 ^ i) m (number_below (n * 16 + d) (suc j) x bs (omega (arith, pow-suc 16 j)) q)) e
  where
    by_test : (d : ℕ) (t : Bool) → ltb d 16 ≡ t → (d < 16 → numeral_from 16 (n * 16 + d) bs ≡ Some x → x < 16 ^ (j + suc (length bs)))
        → bind (only t d) (λ d. numeral_from 16 (n * 16 + d) bs) ≡ Some x → x < 16 ^ (j + suc (length bs))
    by_test d true t f q = f (ltb-true d 16 t) q
    by_test d false t f q = cc

    by_digit : (o : Option ℕ) → ((d : ℕ) → d < 16 → numeral_from 16 (n * 16 + d) bs ≡ Some x → x < 16 ^ (j + suc (length bs)))
        → bind (bind o (λ d. only (ltb d 16) d)) (λ d. numeral_from 16 (n * 16 + d) bs) ≡ Some x → x < 16 ^ (j + suc (length bs))
    by_digit None f q = cc
    by_digit (Some d) f q = by_test d (ltb d 16) refl (f d) q

pub numeral_below : (m x : ℕ) (xs : List ℕ) → length xs ≤ m → numeral 16 xs ≡ Some x → x < 16 ^ m
numeral_below m x [] h e = cc
numeral_below m x (b ∷ bs) h e =
    let l : x < 16 ^ (0 + length (b ∷ bs)) = number_below 0 0 x (b ∷ bs) (omega arith) e in
    omega (arith, l, pow-le-pow_right {n = 16} (omega arith) {i = 0 + length (b ∷ bs)} {j = m} (omega arith))

-- at most eight fit 32 bits
pub numeral_fits : (xs : List ℕ) → length xs ≤ 8 → bind (numeral 16 xs) small ≡ numeral 16 xs
numeral_fits xs h = by_value (numeral 16 xs) refl
  where
    by_value : (o : Option ℕ) → numeral 16 xs ≡ o → bind o small ≡ o
    by_value None e = refl
    by_value (Some x) e = rw (lt-ltb x (2 ^ 32) (numeral_below 8 x xs h e))
