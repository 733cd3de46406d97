-- One word there and back, for every width and both orders.
-- Assumes nothing.
use Prim.Native.Nat.{ℕ, zero, suc, ◌+◌, ◌*◌, ◌-◌, ◌/◌, ◌%◌, ◌^◌, ◌<◌}
use mathlib.Core.Path.{◌≡◌, refl, sym, ap, ap₂, ◌∙◌}
use mathlib.Core.List.{List, [], ◌∷◌, ◌++◌}
use native.Mathlib.Nat.{mod-eq_of_lt, mod-mod, mod-one, mul-suc, mul-zero, add_comm, add-mul, mul-add, mul_assoc, div-one}
use native.Mathlib.Numerals.{add-one}
use native.Mathlib.Omega.{arith}
use lib.Arith.{digits_lt}
use lib.ListN.{length, get_or, length-append}
use lib.Pow.{pow_pos, pow-add, high, low, mod-pow-add, shr-shr, field, mod-mod-pow}
use Rattle.words.specs.declared.order.BitOrder.{BitOrder}
use Rattle.words.specs.declared.order.BitOrder.TheVariants.{Msb, Lsb}
use Rattle.words.specs.Word.{joined, first, rest, pack, unpack, reversed}

-- each element has k bits
abbrev pub Elements : ℕ → List ℕ → Type 0
Elements k xs = (i : ℕ) → get_or xs i 0 < 2 ^ k

-- a joined word fits its 1 + n elements
pub joined_lt : (o : BitOrder) (k n x r : ℕ) → x < 2 ^ k → r < 2 ^ (k * n) → joined o k n x r < 2 ^ (k * suc n)
joined_lt Msb k n x r hx hr = rw (mul-suc, add_comm (k * n) k, pow-add) (digits_lt hx hr)
joined_lt Lsb k n x r hx hr = rw (mul-suc, pow-add) (digits_lt hr hx)

-- a joined word gives its two parts again
first_joined : (o : BitOrder) (k n x r : ℕ) → x < 2 ^ k → r < 2 ^ (k * n) → first o k n (joined o k n x r) ≡ x
first_joined Msb k n x r hx hr = rw (high x (k * n) hr) (mod-eq_of_lt hx)
first_joined Lsb k n x r hx hr = low r k hx

rest_joined : (o : BitOrder) (k n x r : ℕ) → x < 2 ^ k → r < 2 ^ (k * n) → rest o k n (joined o k n x r) ≡ r
rest_joined Msb k n x r hx hr = low x (k * n) hr
rest_joined Lsb k n x r hx hr = high r k hx

-- the parts of a word, joined, are the word without what stands above its 1 + n elements
joined_parts : (o : BitOrder) (k n w : ℕ) → joined o k n (first o k n w) (rest o k n w % 2 ^ (k * n)) ≡ w % 2 ^ (k * suc n)
joined_parts Msb k n w = rw (mod-mod, mul-suc, add_comm (k * n) k, mod-pow-add w k (k * n))
joined_parts Lsb k n w = rw (mul-suc, mod-pow-add w (k * n) k)

pub length_unpack : (o : BitOrder) (k c w : ℕ) → length (unpack o k c w) ≡ c
length_unpack o k zero w = refl
length_unpack o k (suc c) w = ap suc (length_unpack o k c (rest o k c w))

pub pack_lt : (o : BitOrder) (k : ℕ) (xs : List ℕ) → Elements k xs → pack o k xs < 2 ^ (k * length xs)
pack_lt o k [] h = pow_pos (k * 0)
pack_lt o k (x ∷ xs) h = joined_lt o k (length xs) x (pack o k xs) (h 0) (pack_lt o k xs (λ i. h (suc i)))

-- THERE AND BACK: unpacking what was packed gives the same elements
pub unpack_pack : (o : BitOrder) (k : ℕ) (xs : List ℕ) → Elements k xs → unpack o k (length xs) (pack o k xs) ≡ xs
unpack_pack o k [] h = refl
unpack_pack o k (x ∷ xs) h =
    let l = pack_lt o k xs (λ i. h (suc i)) in
    rw (first_joined o k (length xs) x (pack o k xs) (h 0) l, rest_joined o k (length xs) x (pack o k xs) (h 0) l)
    (ap (λ (l : List ℕ). x ∷ l) (unpack_pack o k xs (λ i. h (suc i))))

-- BACK AND THERE: packing what was unpacked gives the word with the places above its c elements zero
pub pack_unpack : (o : BitOrder) (k c w : ℕ) → pack o k (unpack o k c w) ≡ w % 2 ^ (k * c)
pack_unpack o k zero w = rw mul-zero (sym (mod-one w))
pack_unpack o k (suc c) w =
    ap₂ (λ (m r : ℕ). joined o k m (first o k c w) r) (length_unpack o k c (rest o k c w)) (pack_unpack o k c (rest o k c w))
    ∙ joined_parts o k c w

-- one element more at the end: what stands last in one order stands first in the other
pub pack_last : (o : BitOrder) (k : ℕ) (xs : List ℕ) (x : ℕ) → pack o k (xs ++ (x ∷ [])) ≡ joined (reversed o) k (length xs) x (pack o k xs)
pack_last Msb k [] x = rw mul-zero (omega arith)
pack_last Lsb k [] x = rw mul-zero (omega arith)
pack_last Msb k (y ∷ ys) x =
    let n = length ys in
    let e : y * 2 ^ (k * suc n) ≡ y * 2 ^ (k * n) * 2 ^ k = rw (mul-suc, pow-add, mul_assoc) in
    let l : length (ys ++ (x ∷ [])) ≡ suc n = length-append ys (x ∷ []) ∙ add-one n in
    rw (pack_last Msb k ys x, l, e) (omega (arith, add-mul (y * 2 ^ (k * n)) (pack Msb k ys) (2 ^ k)))
pack_last Lsb k (y ∷ ys) x =
    let n = length ys in
    let e : x * 2 ^ (k * suc n) ≡ x * 2 ^ (k * n) * 2 ^ k = rw (mul-suc, pow-add, mul_assoc) in
    rw (pack_last Lsb k ys x, e) (omega (arith, add-mul (x * 2 ^ (k * n)) (pack Lsb k ys) (2 ^ k)))

-- where element i of c stands in its word, counted in elements from the lowest
abbrev pub place_of : BitOrder → ℕ → ℕ → ℕ
place_of Msb c i = c - 1 - i
place_of Lsb c i = i

-- what lies above an element does not reach it
cut_above : (k i j w : ℕ) → w % 2 ^ (k * (suc i + j)) / 2 ^ (k * j) % 2 ^ k ≡ w / 2 ^ (k * j) % 2 ^ k
cut_above k i j w = rw (mul-add k (suc i) j, mul-suc, field w (k * i + k) (k * j)) (mod-mod-pow (w / 2 ^ (k * j)) (k * i) k)

-- ELEMENT i of the unpacking
pub unpack_at : (o : BitOrder) (k c w i : ℕ) → i < c → get_or (unpack o k c w) i 0 ≡ w / 2 ^ (k * place_of o c i) % 2 ^ k
unpack_at o k zero w i h = absurd (omega arith)
unpack_at Msb k (suc c) w zero h = let e : suc c - 1 - 0 ≡ c = omega arith in rw e
unpack_at Lsb k (suc c) w zero h = rw (mul-zero k, div-one w)
unpack_at Msb k (suc c) w (suc i) h =
    let e : c ≡ suc i + (c - 1 - i) = omega arith in
    let p : suc c - 1 - suc i ≡ c - 1 - i = omega arith in
    unpack_at Msb k c (w % 2 ^ (k * c)) i (omega arith)
    ∙ ap (λ (n : ℕ). w % 2 ^ (k * n) / 2 ^ (k * (c - 1 - i)) % 2 ^ k) e
    ∙ cut_above k i (c - 1 - i) w
    ∙ ap (λ (n : ℕ). w / 2 ^ (k * n) % 2 ^ k) (sym p)
unpack_at Lsb k (suc c) w (suc i) h = rw (unpack_at Lsb k c (w / 2 ^ k) i (omega arith), shr-shr, mul-suc, add_comm (k * i) k)
