-- One element of a word, as the code cuts it out, and the loop that lays them over a buffer one by one.
-- Assumes nothing.
use Prim.Native.Nat.{ℕ, ◌+◌, ◌*◌, ◌/◌, ◌%◌, ◌^◌, ◌<◌, ◌≤◌, min}
use mathlib.Core.Path.{◌≡◌, refl, sym, ap, ◌∙◌}
use mathlib.Core.List.{List, [], ◌∷◌, ◌++◌}
use native.Mathlib.Nat.{mod-lt, mul-suc, mul-le-mul_left, mul-div-le, lt_of_lt_of_le}
use native.Mathlib.Numerals.{add-one}
use native.Mathlib.Omega.{arith}
use lib.ListN.{length, get_or, take, drop, length-take}
use lib.Bits.{bit_or, or_shifted}
use lib.Pow.{pow_pos, pow_mono, shl_exact}
use Rattle.words.specs.declared.order.BitOrder.{BitOrder}
use Rattle.words.specs.declared.order.BitOrder.TheVariants.{Msb, Lsb}
use Rattle.words.specs.Word.{joined, per_word, unpack, laid, reversed}
use Rattle.words.specs.Buffer.{tabulate}
use Rattle.words.proofs.WordLaws.{joined_lt, length_unpack, place_of, unpack_at}
use Rattle.words.proofs.BufferLaws.{store_stop, laid_part}

-- element i of a word of n
abbrev pub element_of : BitOrder → ℕ → ℕ → ℕ → ℕ → ℕ
element_of o k n w i = get_or (unpack o k n w) i 0

-- the bits at its place
pub element_is : (o : BitOrder) (k n w i r : ℕ) → i < n → r ≡ w / 2 ^ (k * place_of o n i) % 2 ^ k → (r ≡ element_of o k n w i) × (r < 2 ^ k)
element_is o k n w i r h e = (e ∙ sym (unpack_at o k n w i h), rw e (mod-lt (w / 2 ^ (k * place_of o n i)) (pow_pos k)))

-- a list is what stands at its places
tabulate_list : (xs : List ℕ) → tabulate (length xs) (λ (i : ℕ). get_or xs i 0) ≡ xs
tabulate_list [] = refl
tabulate_list (x ∷ xs) = ap (λ (l : List ℕ). x ∷ l) (tabulate_list xs)

elements_all : (o : BitOrder) (k n w : ℕ) → tabulate n (element_of o k n w) ≡ unpack o k n w
elements_all o k n w = ap (λ (m : ℕ). tabulate m (element_of o k n w)) (sym (length_unpack o k n w)) ∙ tabulate_list (unpack o k n w)

-- THE LOOP over the elements of a word ends with the last one, or where the buffer ends
pub spread_stop : (o : BitOrder) (k n w i m : ℕ) (bs ws : List ℕ) → i ≡ m → m ≡ min n (length bs)
    → ws ≡ laid (tabulate i (element_of o k n w)) bs → ws ≡ laid (unpack o k n w) bs
spread_stop o k n w i m bs ws ei em e =
    store_stop i n (element_of o k n w) (element_of o k n w) bs ws (omega arith) (λ (h : i < n). omega arith) (λ j h. refl) e
    ∙ ap (λ (l : List ℕ). laid l bs) (elements_all o k n w)

-- the buffer whose first m places that loop went over
pub spread_front : (o : BitOrder) (k n w i m : ℕ) (bs ws : List ℕ) → i ≡ m → m ≡ min n (length bs)
    → ws ≡ laid (tabulate i (element_of o k n w)) (take m bs) → ws ++ drop m bs ≡ laid (unpack o k n w) bs
spread_front o k n w i m bs ws ei em e =
    ap (λ (l : List ℕ). l ++ drop m bs) (spread_stop o k n w i m (take m bs) ws ei (omega (arith, length-take m bs)) e)
    ∙ laid_part m (unpack o k n w) bs (λ h. omega (arith, length_unpack o k n w))

-- n elements and one more, that fit a word
more_fits : (k n : ℕ) → n < per_word k → k * n + k ≤ 32
more_fits k n h = omega (arith, mul-le-mul_left k h, mul-suc k n, mul-div-le 32 k)

-- (a << k) | b at so many bits, where a has j bits and b has k
shl_or_at : (size a b j k : ℕ) → a < 2 ^ j → b < 2 ^ k → j + k ≤ size → bit_or (a * 2 ^ k % 2 ^ size) b ≡ a * 2 ^ k + b
shl_or_at size a b j k ha hb h = rw (shl_exact j k size ha h) (or_shifted a k b hb)

-- the word r of n elements w and one more, x, as `append` answers it
abbrev Appended : BitOrder → ℕ → ℕ → ℕ → ℕ → ℕ → Type 0
Appended o k n x w r = (r ≡ joined (reversed o) k n x w) × (r < 2 ^ (k * (n + 1)))

module _ (b k n x w : ℕ) (e : b ≡ k) (h : n < per_word k) (hx : x < 2 ^ k) (hw : w < 2 ^ (k * n)) where
  appended : (o : BitOrder) (r : ℕ) → r ≡ joined (reversed o) k n x w → Appended o k n x w r
  appended o r er = (er, rw (er, add-one n) (joined_lt (reversed o) k n x w hx hw))

  append_msb : Appended Msb k n x w (bit_or (w * 2 ^ b % 2 ^ 64) x)
  append_msb = rw e (appended Msb _ (shl_or_at 64 w x (k * n) k hw hx (omega (arith, more_fits k n h))))

  pub append_lsb : Appended Lsb k n x w (bit_or (x * 2 ^ (b * n) % 2 ^ 32) w)
  append_lsb = rw e (appended Lsb _ (shl_or_at 32 x w k (k * n) hx hw (omega (arith, more_fits k n h))))

  -- which fits a FIFO word
  pub append_fits : bit_or (w * 2 ^ b % 2 ^ 64) x < 2 ^ 32
  append_fits =
      let more : k * (n + 1) ≡ k * n + k = rw (add-one n) (mul-suc k n) in
      let room : k * (n + 1) ≤ 32 = omega (arith, more, more_fits k n h) in
      lt_of_lt_of_le append_msb.1 (pow_mono room)
