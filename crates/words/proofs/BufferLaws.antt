-- Whole buffers as words, for every width and both orders.
-- Assumes nothing.
use Prim.Native.Nat.{ℕ, zero, suc, ◌+◌, ◌*◌, ◌-◌, ◌/◌, ◌%◌, ◌^◌, ◌<◌, ◌≤◌, min}
use mathlib.Core.Bool.{Bool, true, false, cond}
use mathlib.Core.Path.{◌≡◌, refl, sym, ap, ap₂, ◌∙◌, subst}
use mathlib.Core.List.{List, [], ◌∷◌, ◌++◌, append-nil, append_assoc}
use native.Mathlib.Numerals.{add-one, sub-one}
use native.Mathlib.Omega.{arith}
use native.Mathlib.Nat.{le_trans, mul-one, mul-add, mul-div-le, mul-suc, mul-zero, mul_comm, sub-zero, zero-sub, sub-eq-zero_of_le}
use native.Mathlib.Nat.{zero-min, min-zero, suc-min-suc, suc-sub-suc, lt-div-mul-add, mul-le-mul_left}
use borrow.Author.Tests.{eqb-true, le-leb}
use borrow.Rule.Slice.PartMut.{put_mid}
use lib.Dec.{eqb}
use lib.ListN.{length, get_or, take, drop, set, length-drop, length-append, drop_of_length-le, take-append-drop}
use Rattle.std.proofs.Common.{inl, inr}
use Rattle.std.proofs.lemmas.Bool.{cases_lt}
use Rattle.std.proofs.lemmas.List.{length-take-le, take_more, take_at, drop-take}
use lib.Pow.{pow_pos, ones_lt}
use lib.Seq.{get_or-drop, drop-nil, drop-drop, drop_at, take_all, take-take}
use Rattle.words.specs.declared.order.BitOrder.{BitOrder}
use Rattle.words.specs.declared.order.BitOrder.TheVariants.{Msb, Lsb}
use Rattle.words.specs.declared.width.Width.{Width}
use Rattle.words.specs.declared.width.Width.TheVariants.{U8, U16, U32}
use Rattle.words.specs.Width.{width_bits}
use Rattle.words.specs.Word.{joined, first, pack, unpack, reversed, per_word, laid, packed, unpack_count, unpacked}
use Rattle.words.specs.Answer.{ok}
use Rattle.words.specs.Buffer.{dummy, word_count, count_at, filled, tabulate, word_at, pack_words, unpack_words}
use Rattle.words.proofs.WordLaws.{Elements, pack_last, unpack_pack, pack_unpack, length_unpack}

-- FILLED

pub length_filled : (d n : ℕ) (xs : List ℕ) → length (filled d n xs) ≡ n
length_filled d zero xs = refl
length_filled d (suc n) [] = ap suc (length_filled d n [])
length_filled d (suc n) (x ∷ xs) = ap suc (length_filled d n xs)

elements_filled : (k d n : ℕ) (xs : List ℕ) → d < 2 ^ k → Elements k xs → Elements k (filled d n xs)
elements_filled k d zero xs h b i = pow_pos k
elements_filled k d (suc n) [] h b zero = h
elements_filled k d (suc n) [] h b (suc i) = elements_filled k d n [] h b i
elements_filled k d (suc n) (x ∷ xs) h b zero = b 0
elements_filled k d (suc n) (x ∷ xs) h b (suc i) = elements_filled k d n xs h (λ j. b (suc j)) i

elements_drop : (k n : ℕ) (xs : List ℕ) → Elements k xs → Elements k (drop n xs)
elements_drop k n xs b i = rw get_or-drop (b (n + i))

-- nothing is filled in where there are enough
pub filled_all : (d : ℕ) (xs : List ℕ) → filled d (length xs) xs ≡ xs
filled_all d [] = refl
filled_all d (x ∷ xs) = ap (λ (l : List ℕ). x ∷ l) (filled_all d xs)

filled_last : (d n : ℕ) (xs : List ℕ) → filled d (suc n) xs ≡ filled d n xs ++ (get_or xs n d ∷ [])
filled_last d zero [] = refl
filled_last d zero (x ∷ xs) = refl
filled_last d (suc n) [] = ap (λ (l : List ℕ). d ∷ l) (filled_last d n [])
filled_last d (suc n) (x ∷ xs) = ap (λ (l : List ℕ). x ∷ l) (filled_last d n xs)

pub word_step : (o : BitOrder) (k d n at x w r : ℕ) (xs : List ℕ) → x ≡ get_or xs (at + n) d → w ≡ pack o k (filled d n (drop at xs))
    → r ≡ joined (reversed o) k n x w → r ≡ pack o k (filled d (n + 1) (drop at xs))
word_step o k d n at x w r xs ex ew er =
    let ys = drop at xs in
    er
    ∙ ap₂ (joined (reversed o) k n) (ex ∙ sym (get_or-drop at xs n d)) ew
    ∙ ap (λ (m : ℕ). joined (reversed o) k m (get_or ys n d) (pack o k (filled d n ys))) (sym (length_filled d n ys))
    ∙ sym (pack_last o k (filled d n ys) (get_or ys n d))
    ∙ ap (pack o k) (sym (filled_last d n ys))
    ∙ ap (λ (m : ℕ). pack o k (filled d m ys)) (sym (add-one n))

-- a word of the first i elements grows by one
pub word_more : (o : BitOrder) (k i x w r : ℕ) (ns : List ℕ) → i < length ns → x ≡ get_or ns i 0 → w ≡ pack o k (take i ns)
    → r ≡ joined (reversed o) k i x w → r ≡ pack o k (take (i + 1) ns)
word_more o k i x w r ns h ex ew er =
    let n : length (take i ns) ≡ i = length-take-le i ns (omega arith) in
    er
    ∙ ap₂ (λ (y v : ℕ). joined (reversed o) k i y v) ex ew
    ∙ ap (λ (m : ℕ). joined (reversed o) k m (get_or ns i 0) (pack o k (take i ns))) (sym n)
    ∙ sym (pack_last o k (take i ns) (get_or ns i 0))
    ∙ ap (pack o k) (sym (take_more ns i 0 h))

-- width 32: the word is the element, in both orders
pub word_one : (o : BitOrder) (x : ℕ) → pack o 32 (x ∷ []) ≡ x
word_one Msb x = omega arith
word_one Lsb x = omega arith

first_one : (o : BitOrder) (w : ℕ) → w < 2 ^ 32 → first o 32 0 w ≡ w
first_one Msb w h = omega arith
first_one Lsb w h = omega arith

-- the first p elements, and the others
filled_split : (d n p : ℕ) (xs : List ℕ) → filled d n xs ≡ filled d (min p n) xs ++ filled d (n - p) (drop p xs)
filled_split d n zero xs = rw (zero-min n, sub-zero n)
filled_split d zero (suc p) xs = rw (min-zero, zero-sub)
filled_split d (suc n) (suc p) [] =
    rw (suc-min-suc p n, suc-sub-suc n p)
    (ap (λ (l : List ℕ). d ∷ l)
    (filled_split d n p [] ∙ ap (λ (l : List ℕ). filled d (min p n) [] ++ filled d (n - p) l) (drop-nil p)))
filled_split d (suc n) (suc p) (x ∷ xs) =
    rw (suc-min-suc p n, suc-sub-suc n p) (ap (λ (l : List ℕ). x ∷ l) (filled_split d n p xs))

-- a front of the right length is all that is filled
filled_front : (d : ℕ) (xs ys : List ℕ) → filled d (length xs) (xs ++ ys) ≡ xs
filled_front d [] ys = refl
filled_front d (x ∷ xs) ys = ap (λ (l : List ℕ). x ∷ l) (filled_front d xs ys)

-- LAID

pub length_laid : (xs bs : List ℕ) → length (laid xs bs) ≡ length bs
length_laid [] bs = refl
length_laid (x ∷ xs) [] = refl
length_laid (x ∷ xs) (b ∷ bs) = ap suc (length_laid xs bs)

pub laid_nothing : (xs : List ℕ) → laid xs [] ≡ []
laid_nothing [] = refl
laid_nothing (x ∷ xs) = refl

laid_whole : (xs bs : List ℕ) → length xs ≡ length bs → laid xs bs ≡ xs
laid_whole [] [] h = refl
laid_whole [] (b ∷ bs) h = absurd (omega arith)
laid_whole (x ∷ xs) [] h = absurd (omega arith)
laid_whole (x ∷ xs) (b ∷ bs) h = ap (λ (l : List ℕ). x ∷ l) (laid_whole xs bs (omega arith))

-- what has no room is dropped
laid_dropped : (xs ys bs : List ℕ) → length bs ≤ length xs → laid (xs ++ ys) bs ≡ laid xs bs
laid_dropped [] ys [] h = laid_nothing ys
laid_dropped [] ys (b ∷ bs) h = absurd (omega arith)
laid_dropped (x ∷ xs) ys [] h = refl
laid_dropped (x ∷ xs) ys (b ∷ bs) h = ap (λ (l : List ℕ). x ∷ l) (laid_dropped xs ys bs (omega arith))

-- elements after elements: those that come second go where the first end
laid_append : (xs ys bs : List ℕ) → laid (xs ++ ys) bs ≡ take (length xs) (laid xs bs) ++ laid ys (drop (length xs) (laid xs bs))
laid_append [] ys bs = refl
laid_append (x ∷ xs) ys [] = sym (laid_nothing ys)
laid_append (x ∷ xs) ys (b ∷ bs) = ap (λ (l : List ℕ). x ∷ l) (laid_append xs ys bs)

-- THE LOOP that stores f 0, f 1, .. from the front on, and stops at the end of the list or of the buffer

laid_store : (n : ℕ) (f : ℕ → ℕ) (bs : List ℕ) → n < length bs → set (laid (tabulate n f) bs) n (f n) ≡ laid (tabulate (suc n) f) bs
laid_store n f [] h = absurd (omega arith)
laid_store zero f (b ∷ bs) h = refl
laid_store (suc n) f (b ∷ bs) h = ap (λ (l : List ℕ). f 0 ∷ l) (laid_store n (λ i. f (suc i)) bs (omega arith))

pub store_step : (n x : ℕ) (f : ℕ → ℕ) (bs ws : List ℕ) → n < length bs → x ≡ f n → ws ≡ laid (tabulate n f) bs
    → set ws n x ≡ laid (tabulate (n + 1) f) bs
store_step n x f bs ws h ex ew =
    ap₂ (λ (l : List ℕ) (y : ℕ). set l n y) ew ex ∙ laid_store n f bs h ∙ ap (λ (m : ℕ). laid (tabulate m f) bs) (sym (add-one n))

laid_stop : (n m : ℕ) (f : ℕ → ℕ) (bs : List ℕ) → n ≤ m → (n < m → length bs ≤ n) → laid (tabulate n f) bs ≡ laid (tabulate m f) bs
laid_stop zero zero f bs h s = refl
laid_stop zero (suc m) f [] h s = refl
laid_stop zero (suc m) f (b ∷ bs) h s = let l = s (omega arith) in absurd (omega arith)
laid_stop (suc n) zero f bs h s = absurd (omega arith)
laid_stop (suc n) (suc m) f [] h s = refl
laid_stop (suc n) (suc m) f (b ∷ bs) h s =
    ap (λ (l : List ℕ). f 0 ∷ l) (laid_stop n m (λ i. f (suc i)) bs (omega arith) (λ (l : n < m). let t = s (omega arith) in omega arith))

pub tabulate_same : (n : ℕ) (f g : ℕ → ℕ) → ((i : ℕ) → i < n → f i ≡ g i) → tabulate n f ≡ tabulate n g
tabulate_same zero f g h = refl
tabulate_same (suc n) f g h =
    ap₂ (λ (x : ℕ) (l : List ℕ). x ∷ l) (h 0 (omega arith))
    (tabulate_same n (λ i. f (suc i)) (λ i. g (suc i)) (λ i l. h (suc i) (omega arith)))

pub store_stop : (n m : ℕ) (f g : ℕ → ℕ) (bs ws : List ℕ) → n ≤ m → (n < m → length bs ≤ n) → ((i : ℕ) → i < m → f i ≡ g i)
    → ws ≡ laid (tabulate n f) bs → ws ≡ laid (tabulate m g) bs
store_stop n m f g bs ws h s e ew = ew ∙ laid_stop n m f bs h s ∙ ap (λ (l : List ℕ). laid l bs) (tabulate_same m f g e)

-- elements that have room in the first m places, or are laid over all there are
pub laid_part : (m : ℕ) (xs bs : List ℕ) → (m < length bs → length xs ≤ m) → laid xs (take m bs) ++ drop m bs ≡ laid xs bs
laid_part m [] bs h = take-append-drop m bs
laid_part zero (x ∷ xs) [] h = refl
laid_part zero (x ∷ xs) (b ∷ bs) h = let l = h (omega arith) in absurd (omega arith)
laid_part (suc m) (x ∷ xs) [] h = refl
laid_part (suc m) (x ∷ xs) (b ∷ bs) h =
    ap (λ (l : List ℕ). x ∷ l) (laid_part m xs bs (λ (l : m < length bs). let r = h (omega arith) in omega arith))

-- a part of a buffer, m places from `at` on, that comes back with elements laid over it
put_laid : (at m : ℕ) (bs xs ys : List ℕ) → ys ≡ laid xs (take m (drop at bs)) → (m < length bs - at → length xs ≤ m)
    → put_mid at m bs ys ≡ take at bs ++ laid xs (drop at bs)
put_laid at m bs xs ys e h =
    ap (λ (l : List ℕ). take at bs ++ l)
    (ap (λ (l : List ℕ). l ++ drop m (drop at bs)) e ∙ laid_part m xs (drop at bs) (rw (length-drop at bs) h))

-- UNPACKING WORDS

-- nothing is left of a total of 0
unpack_nothing : (o : BitOrder) (k : ℕ) (ws : List ℕ) → unpack_words o k 0 ws ≡ []
unpack_nothing o k [] = refl
unpack_nothing o k (w ∷ ws) = rw (min-zero, zero-sub) (unpack_nothing o k ws)

-- the total that is left after n + 1 words
pub left_suc : (k total n : ℕ) → total - per_word k * suc n ≡ total - per_word k - per_word k * n
left_suc k total n = omega (arith, mul-suc (per_word k) n)

-- the first n words, and the others
unpack_split : (o : BitOrder) (k total n : ℕ) (ws : List ℕ)
    → unpack_words o k total ws ≡ unpack_words o k total (take n ws) ++ unpack_words o k (total - per_word k * n) (drop n ws)
unpack_split o k total zero ws = rw (mul-zero (per_word k), sub-zero total)
unpack_split o k total (suc n) [] = refl
unpack_split o k total (suc n) (w ∷ ws) =
    let here = unpack o k (min (per_word k) total) w in
    rw (left_suc k total n)
    (ap (λ (l : List ℕ). here ++ l) (unpack_split o k (total - per_word k) n ws)
    ∙ sym
    (append_assoc here (unpack_words o k (total - per_word k) (take n ws))
    (unpack_words o k (total - per_word k - per_word k * n) (drop n ws))))

-- words past the total have no elements
pub unpack_past : (o : BitOrder) (k total n : ℕ) (ws : List ℕ) → total ≤ per_word k * n
    → unpack_words o k total (take n ws) ≡ unpack_words o k total ws
unpack_past o k total n ws h =
    let front = unpack_words o k total (take n ws) in
    let none : unpack_words o k (total - per_word k * n) (drop n ws) ≡ [] = rw (sub-eq-zero_of_le h) (unpack_nothing o k (drop n ws)) in
    sym (unpack_split o k total n ws ∙ ap (λ (x : List ℕ). front ++ x) none ∙ append-nil front)

-- one word more
unpack_last : (o : BitOrder) (k total i : ℕ) (ws : List ℕ) → i < length ws
    → unpack_words o k total (take (suc i) ws) ≡ unpack_words o k total (take i ws) ++ unpack o k (count_at k total i) (get_or ws i 0)
unpack_last o k total i [] h = absurd (omega arith)
unpack_last o k total zero (w ∷ ws) h = rw (mul-zero (per_word k), sub-zero total) (append-nil (unpack o k (min (per_word k) total) w))
unpack_last o k total (suc i) (w ∷ ws) h =
    let here = unpack o k (min (per_word k) total) w in
    rw (left_suc k total i)
    (ap (λ (l : List ℕ). here ++ l) (unpack_last o k (total - per_word k) i ws (omega arith))
    ∙ sym
    (append_assoc here (unpack_words o k (total - per_word k) (take i ws))
    (unpack o k (count_at k (total - per_word k) i) (get_or ws i 0))))

unpack_length : (o : BitOrder) (k total n : ℕ) (ws : List ℕ) → n ≤ length ws → per_word k * n ≤ total
    → length (unpack_words o k total (take n ws)) ≡ per_word k * n
unpack_length o k total zero ws h l = sym (mul-zero (per_word k))
unpack_length o k total (suc n) [] h l = absurd (omega arith)
unpack_length o k total (suc n) (w ∷ ws) h l =
    let m = mul-suc (per_word k) n in
    length-append (unpack o k (min (per_word k) total) w) (unpack_words o k (total - per_word k) (take n ws))
    ∙ ap₂ (λ (a b : ℕ). a + b) (length_unpack o k (min (per_word k) total) w)
    (unpack_length o k (total - per_word k) n ws (omega arith) (omega arith))
    ∙ omega arith

-- whole words do not depend on how much longer the transfer is
pub full_prefix : (o : BitOrder) (k total n : ℕ) (ws : List ℕ) → per_word k * n ≤ total
    → unpack_words o k (per_word k * n) (take n ws) ≡ unpack_words o k total (take n ws)
full_prefix o k total zero ws h = refl
full_prefix o k total (suc n) [] h = refl
full_prefix o k total (suc n) (w ∷ ws) h =
    let m = mul-suc (per_word k) n in
    let here : min (per_word k) (per_word k * suc n) ≡ min (per_word k) total = omega arith in
    let left : per_word k * suc n - per_word k ≡ per_word k * n = omega arith in
    ap₂ (λ (c : ℕ) (l : List ℕ). unpack o k c w ++ l) here
    (ap (λ (r : ℕ). unpack_words o k r (take n ws)) left ∙ full_prefix o k (total - per_word k) n ws (omega arith))

-- COUNTS OF WORDS

-- a word holds an element at least
pub holds_one : (w : Width) → 0 < per_word (width_bits w)
holds_one U8 = omega arith
holds_one U16 = omega arith
holds_one U32 = omega arith

-- what `per_word` answers for the width that `width` answered
pub per_width : {p : ℕ} {v w : Width} → p ≡ per_word (width_bits v) → v ≡ w → p ≡ per_word (width_bits w)
per_width e h = e ∙ ap (λ (w : Width). per_word (width_bits w)) h

-- the places of word i of n
pub within_words : (p i n : ℕ) → i < n → p * i + p ≤ p * n
within_words p i n h = omega (arith, mul-le-mul_left p h, mul-suc p i)

-- whole words of e elements
pub whole_fit : (p n e : ℕ) → n ≤ e / p → p * n ≤ e
whole_fit p n e h = le_trans (mul-le-mul_left p h) (mul-div-le e p)

-- whole words take as many words
pub count_whole : (w : Width) (n : ℕ) → word_count (width_bits w) (per_word (width_bits w) * n) ≡ n
count_whole U8 n = omega arith
count_whole U16 n = omega arith
count_whole U32 n = omega arith

pub enough_words : (k total : ℕ) → 0 < per_word k → total ≤ per_word k * word_count k total
enough_words k total h =
    omega (arith, lt-div-mul-add {a = total + (per_word k - 1)} {b = per_word k} h, mul_comm (per_word k) (word_count k total))

-- n words: those received, or as many as total and buffer hold whole; where words are left, the shorter of the two ends with the next
pub whole_words : (k n e total len size : ℕ) → 0 < per_word k → n ≡ min len (e / per_word k) → e ≡ min total size
    → (n ≤ len) × (per_word k * n ≤ total) × (per_word k * n ≤ size) × (n < len → min total size ≤ per_word k * (n + 1))
whole_words k n e total len size h en ee =
    let q = e / per_word k in
    let few : n ≤ q = omega arith in
    let low : per_word k * n ≤ e = le_trans (mul-le-mul_left (per_word k) few) (mul-div-le e (per_word k)) in
    let high : e < q * per_word k + per_word k = lt-div-mul-add {a = e} {b = per_word k} h in (
      omega arith,
      omega arith,
      omega arith,
      λ (l : n < len). let same : n ≡ q = omega arith in
          rw (← ee, same) (omega (arith, mul_comm q (per_word k), mul-add (per_word k) q 1, mul-one (per_word k))),
    )

-- THE PARTS of p elements of the first p n: each turn takes part i off, and the last leaves less than a part
pub part_turn : {X : Type 0} (p i n : ℕ) (xs part rest : List X) → 0 < p → p * n ≤ length xs → length part ≡ p
    → drop (p * i) (take (p * n) xs) ≡ part ++ rest
    → (i < n) × (part ≡ take p (drop (p * i) xs)) × (rest ≡ drop (p * (i + 1)) (take (p * n) xs))
part_turn p i n xs part rest hp hx hl e =
    let zs = take (p * n) xs in
    let all = ap length e ∙ length-append part rest in
    let room : p * i + p ≤ p * n = omega (arith, all, length-drop (p * i) zs, length-take-le (p * n) xs hx, hl) in (
      elim (cases_lt i n) [ inl l ↦ l | inr l ↦ absurd (omega (arith, mul-le-mul_left p l, room)) ],
      sym (take_at part rest p hl)
          ∙ ap (take p) (sym e ∙ ap (λ (m : ℕ). drop (p * i) (take m xs)) (omega (arith, room)) ∙ drop-take (p * i) (p * n - p * i) xs)
          ∙ take-take p (p * n - p * i) (drop (p * i) xs) (omega (arith, room)),
      sym (drop_at part rest p hl)
          ∙ ap (drop p) (sym e)
          ∙ drop-drop p (p * i) zs
          ∙ ap (λ (m : ℕ). drop m zs) (omega (arith, mul-add p i 1, mul-one p)),
    )

pub part_end : {X : Type 0} (p i n : ℕ) (xs : List X) → i ≤ n → p * n ≤ length xs → length (drop (p * i) (take (p * n) xs)) < p → i ≡ n
part_end p i n xs hi hx h =
    elim (cases_lt i n) [
      | inl l ↦ absurd (omega (arith, within_words p i n l, length-drop (p * i) (take (p * n) xs), length-take-le (p * n) xs hx))
      | inr l ↦ omega arith
    ]

-- THERE AND BACK through the word entries, for a count of 1 or more
counted : (k c : ℕ) → 1 ≤ c → c ≤ per_word k → unpack_count k c ≡ c
counted k c h l = by_test (eqb k 32) refl
  where
    by_test : (b : Bool) → eqb k 32 ≡ b → cond b 1 c ≡ c
    by_test true e = let k32 = eqb-true k 32 e in let m : c ≤ per_word 32 = subst (λ (n : ℕ). c ≤ per_word n) k32 l in omega arith
    by_test false e = refl

pub entry_unpack_pack : (o : BitOrder) (k : ℕ) (xs bs : List ℕ) → Elements k xs → 1 ≤ length xs → length xs ≤ per_word k
    → unpacked o k (length xs) (packed o k xs).value bs ≡ laid xs bs
entry_unpack_pack o k xs bs b h l =
    simp (le-leb (length xs) (per_word k) l, counted k (length xs) h l) (ap (λ (ys : List ℕ). laid ys bs) (unpack_pack o k xs b))

pub entry_pack_unpack : (o : BitOrder) (k w : ℕ) (bs : List ℕ) → 1 ≤ length bs → length bs ≤ per_word k
    → packed o k (unpacked o k (length bs) w bs) ≡ ok (w % 2 ^ (k * length bs))
entry_pack_unpack o k w bs h l =
    let e = le-leb (length bs) (per_word k) l in
    let all : unpacked o k (length bs) w bs ≡ unpack o k (length bs) w =
    simp (e, counted k (length bs) h l) (laid_whole (unpack o k (length bs) w) bs (length_unpack o k (length bs) w)) in
    rw all (simp (length_unpack o k (length bs) w, e) (ap ok (pack_unpack o k (length bs) w)))

-- THE LOOP: it lays word i at its place, and may stop where total or buffer end
pub unpack_step : (o : BitOrder) (k total i at m c w : ℕ) (ws bs out ys : List ℕ) → i < length ws → per_word k * i ≤ total
    → at ≡ per_word k * i → c ≡ count_at k total i → w ≡ get_or ws i 0
    → out ≡ laid (unpack_words o k total (take i ws)) bs
    → ys ≡ laid (unpack o k c w) (take m (drop at out))
    → (m < length out - at → c ≤ m)
    → put_mid at m out ys ≡ laid (unpack_words o k total (take (i + 1) ws)) bs
unpack_step o k total i at m c w ws bs out ys hi ht ea ec ew eo ey hm =
    let n : length (unpack_words o k total (take i ws)) ≡ at = unpack_length o k total i ws (omega arith) ht ∙ sym ea in
    put_laid at m out (unpack o k c w) ys ey (rw (length_unpack o k c w) hm)
    ∙ ap₂ (λ (l : List ℕ) (m : ℕ). take m l ++ laid (unpack o k c w) (drop m l)) eo (sym n)
    ∙ sym (laid_append (unpack_words o k total (take i ws)) (unpack o k c w) bs)
    ∙ ap (λ (l : List ℕ). laid (unpack_words o k total (take i ws) ++ l) bs) (ap₂ (unpack o k) ec ew)
    ∙ ap (λ (l : List ℕ). laid l bs) (sym (unpack_last o k total i ws hi))
    ∙ ap (λ (m : ℕ). laid (unpack_words o k total (take m ws)) bs) (sym (add-one i))

pub unpack_stop : (o : BitOrder) (k total n : ℕ) (ws bs : List ℕ) → n ≤ length ws → (n < length ws → min total (length bs) ≤ per_word k * n)
    → laid (unpack_words o k total (take n ws)) bs ≡ laid (unpack_words o k total ws) bs
unpack_stop o k total n ws bs h s =
    elim (cases_lt n (length ws)) [
      | inr l ↦ ap (λ (x : List ℕ). laid (unpack_words o k total x) bs) (take_all n ws l)
      | inl l ↦
          elim (cases_lt (per_word k * n) total) [
            | inr t ↦ ap (λ (x : List ℕ). laid x bs) (unpack_past o k total n ws t)
            | inl t ↦
                let m = s l in
                sym (ap (λ (x : List ℕ). laid x bs) (unpack_split o k total n ws)
                ∙ laid_dropped (unpack_words o k total (take n ws)) (unpack_words o k (total - per_word k * n) (drop n ws)) bs
                (omega (arith, unpack_length o k total n ws h (omega arith))))
          ]
    ]

-- a whole word of elements that are all there
filled_enough : (d n : ℕ) (xs : List ℕ) → n ≤ length xs → filled d n xs ≡ take n xs
filled_enough d zero xs h = refl
filled_enough d (suc n) [] h = absurd (omega arith)
filled_enough d (suc n) (x ∷ xs) h = ap (λ (l : List ℕ). x ∷ l) (filled_enough d n xs (omega arith))

pub word_whole : (o : BitOrder) (k total i at : ℕ) (xs : List ℕ) → at ≡ per_word k * i → at + per_word k ≤ length xs → at + per_word k ≤ total
    → pack o k (take (per_word k) (drop at xs)) ≡ word_at o k total xs i
word_whole o k total i at xs ea hx ht =
    let n : count_at k total i ≡ per_word k = omega arith in
    ap (pack o k) (sym (filled_enough (dummy k) (per_word k) (drop at xs) (omega (arith, length-drop at xs))))
    ∙ ap₂ (λ (m p : ℕ). pack o k (filled (dummy k) m (drop p xs))) (sym n) ea

-- which does not depend on how much longer the transfer is
word_prefix : (o : BitOrder) (k total n i : ℕ) (xs : List ℕ) → i < n → per_word k * n ≤ total
    → word_at o k (per_word k * n) xs i ≡ word_at o k total xs i
word_prefix o k total n i xs h l =
    let m : per_word k * suc i ≤ per_word k * n = mul-le-mul_left (per_word k) h in
    let e : count_at k (per_word k * n) i ≡ count_at k total i = omega (arith, mul-suc (per_word k) i) in
    ap (λ (c : ℕ). pack o k (filled (dummy k) c (drop (per_word k * i) xs))) e

pub words_prefix : (o : BitOrder) (k total n : ℕ) (xs : List ℕ) → word_count k (per_word k * n) ≡ n → per_word k * n ≤ total
    → pack_words o k (per_word k * n) xs ≡ tabulate n (word_at o k total xs)
words_prefix o k total n xs e l =
    ap (λ (m : ℕ). tabulate m (word_at o k (per_word k * n) xs)) e
    ∙ tabulate_same n (word_at o k (per_word k * n) xs) (word_at o k total xs) (λ i h. word_prefix o k total n i xs h l)

-- width 32: word i is element i
pub word_32 : (o : BitOrder) (total i : ℕ) (xs : List ℕ) → i < total → get_or xs i (dummy 32) ≡ word_at o 32 total xs i
word_32 o total i xs h =
    let one : count_at 32 total i ≡ 1 = omega arith in
    let at : 1 * i ≡ i = omega arith in
    sym (ap (λ (n : ℕ). pack o 32 (filled (dummy 32) n (drop (1 * i) xs))) one
    ∙ ap (pack o 32) (filled_last (dummy 32) 0 (drop (1 * i) xs)) ∙ word_one o (get_or (drop (1 * i) xs) 0 (dummy 32))
    ∙ get_or-drop (1 * i) xs 0 (dummy 32) ∙ ap (λ (n : ℕ). get_or xs n (dummy 32)) (omega arith))

-- and the elements are the words
pub unpack_32 : (o : BitOrder) (total : ℕ) (ws : List ℕ) → Elements 32 ws
    → unpack_words o 32 total ws ≡ tabulate (min total (length ws)) (λ (i : ℕ). get_or ws i 0)
unpack_32 o total [] b = rw (min-zero total)
unpack_32 o zero (w ∷ ws) b = rw (zero-min (suc (length ws))) (unpack_nothing o 32 (w ∷ ws))
unpack_32 o (suc total) (w ∷ ws) b =
    let one : min 1 (suc total) ≡ 1 = omega arith in
    rw (one, sub-one (suc total), suc-min-suc total (length ws), first_one o w (b 0))
    (ap (λ (l : List ℕ). w ∷ l) (unpack_32 o total ws (λ i. b (suc i))))

-- THERE AND BACK

pub word_suc : (o : BitOrder) (k total i : ℕ) (xs : List ℕ)
    → word_at o k total xs (suc i) ≡ word_at o k (total - per_word k) (drop (per_word k) xs) i
word_suc o k total i xs =
    let p : per_word k * suc i ≡ per_word k + per_word k * i = omega (arith, mul-suc (per_word k) i) in
    rw (left_suc k total i, p, drop-drop)

unpack_packed : (o : BitOrder) (k m total : ℕ) (xs : List ℕ) → Elements k xs → total ≤ per_word k * m
    → unpack_words o k total (tabulate m (word_at o k total xs)) ≡ filled (dummy k) total xs
unpack_packed o k zero zero xs b h = refl
unpack_packed o k zero (suc total) xs b h = absurd (omega (arith, mul-zero (per_word k)))
unpack_packed o k (suc m) total xs b h =
    let c = min (per_word k) total in
    let word : word_at o k total xs 0 ≡ pack o k (filled (dummy k) c xs) = rw (mul-zero (per_word k), sub-zero total) in
    let here : unpack o k c (pack o k (filled (dummy k) c xs)) ≡ filled (dummy k) c xs =
    subst (λ (n : ℕ). unpack o k n (pack o k (filled (dummy k) c xs)) ≡ filled (dummy k) c xs) (length_filled (dummy k) c xs)
    (unpack_pack o k (filled (dummy k) c xs) (elements_filled k (dummy k) c xs (ones_lt k) b)) in
    let there =
    unpack_packed o k m (total - per_word k) (drop (per_word k) xs) (elements_drop k (per_word k) xs b)
    (omega (arith, mul-suc (per_word k) m)) in
    ap₂ (λ (a l : List ℕ). a ++ l) (ap (unpack o k c) word ∙ here)
    (ap (unpack_words o k (total - per_word k))
    (tabulate_same m (λ i. word_at o k total xs (suc i)) (word_at o k (total - per_word k) (drop (per_word k) xs))
    (λ i l. word_suc o k total i xs))
    ∙ there)
    ∙ sym (filled_split (dummy k) total (per_word k) xs)

-- what was packed is unpacked as the elements of the transfer: those of xs, and dummies
pub unpack_pack_words : (o : BitOrder) (k total : ℕ) (xs : List ℕ) → 0 < per_word k → Elements k xs
    → unpack_words o k total (pack_words o k total xs) ≡ filled (dummy k) total xs
unpack_pack_words o k total xs h b = unpack_packed o k (word_count k total) total xs b (enough_words k total h)

-- the words after the first
pub drop_unpacked : (o : BitOrder) (k total w : ℕ) (ws : List ℕ)
    → drop (per_word k) (unpack_words o k total (w ∷ ws)) ≡ unpack_words o k (total - per_word k) ws
drop_unpacked o k total w ws =
    elim (cases_lt total (per_word k)) [
      | inr l ↦ drop_at here later (per_word k) (length_unpack o k (min (per_word k) total) w ∙ omega arith)
      | inl l ↦
          let none : later ≡ [] =
          ap (λ (m : ℕ). unpack_words o k m ws) (sub-eq-zero_of_le {n = total} {m = per_word k} (omega arith))
          ∙ unpack_nothing o k ws in
          ap (λ (x : List ℕ). drop (per_word k) (here ++ x)) none
          ∙ drop_of_length-le (here ++ []) {i = per_word k}
          (omega (arith, length-append here [], length_unpack o k (min (per_word k) total) w))
          ∙ sym none
    ]
  where
    here : List ℕ
    here = unpack o k (min (per_word k) total) w

    later : List ℕ
    later = unpack_words o k (total - per_word k) ws

-- word i of what was unpacked is word i with the places above its elements zero
pub word_unpacked : (o : BitOrder) (k total i : ℕ) (ws : List ℕ) → i < length ws
    → word_at o k total (unpack_words o k total ws) i ≡ get_or ws i 0 % 2 ^ (k * count_at k total i)
word_unpacked o k total i [] h = absurd (omega arith)
word_unpacked o k total zero (w ∷ ws) h =
    let c = min (per_word k) total in
    let front : filled (dummy k) c (unpack o k c w ++ unpack_words o k (total - per_word k) ws) ≡ unpack o k c w =
    subst (λ (n : ℕ). filled (dummy k) n (unpack o k c w ++ unpack_words o k (total - per_word k) ws) ≡ unpack o k c w)
    (length_unpack o k c w)
    (filled_front (dummy k) (unpack o k c w) (unpack_words o k (total - per_word k) ws)) in
    rw (mul-zero (per_word k), sub-zero total) (ap (pack o k) front ∙ pack_unpack o k c w)
word_unpacked o k total (suc i) (w ∷ ws) h =
    word_suc o k total i (unpack_words o k total (w ∷ ws))
    ∙ ap (λ (xs : List ℕ). word_at o k (total - per_word k) xs i) (drop_unpacked o k total w ws)
    ∙ word_unpacked o k (total - per_word k) i ws (omega arith)
    ∙ ap (λ (n : ℕ). get_or ws i 0 % 2 ^ (k * min (per_word k) n)) (sym (left_suc k total i))

-- what was unpacked is packed as the same words, the places above their elements zero
pub pack_unpack_words : (o : BitOrder) (k total : ℕ) (ws : List ℕ) → word_count k total ≤ length ws
    → pack_words o k total (unpack_words o k total ws) ≡ tabulate (word_count k total) (λ i. get_or ws i 0 % 2 ^ (k * count_at k total i))
pack_unpack_words o k total ws h =
    tabulate_same (word_count k total) (word_at o k total (unpack_words o k total ws)) (λ i. get_or ws i 0 % 2 ^ (k * count_at k total i))
    (λ i (l : i < word_count k total). word_unpacked o k total i ws (omega arith))
