-- A buffer with elements or words laid over it, read again: place by place, and word by word.
-- Assumes nothing.
use Prim.Native.Nat.{ℕ, zero, suc, ◌*◌, ◌-◌, ◌<◌, ◌≤◌, min}
use mathlib.Core.Bool.{cond}
use mathlib.Core.Path.{◌≡◌, refl, sym, ap, ◌∙◌, subst}
use mathlib.Core.List.{List, [], ◌∷◌, ◌++◌}
use native.Mathlib.Nat.{mul-zero, sub-zero, mul-le-mul_left}
use native.Mathlib.Omega.{arith}
use lib.Dec.{ltb, leb-zero, leb-suc-zero, leb-suc-suc}
use lib.ListN.{length, get_or, take, drop, set, length-drop}
use Rattle.words.specs.declared.order.BitOrder.{BitOrder}
use Rattle.words.specs.Word.{pack, unpack, per_word, laid}
use Rattle.words.specs.Buffer.{dummy, word_count, count_at, filled, tabulate, word_at, pack_words, unpack_words, cut_word}
use Rattle.words.proofs.WordLaws.{pack_unpack, length_unpack}
use Rattle.words.proofs.BufferLaws.{laid_nothing, left_suc, enough_words, unpack_past, word_suc, drop_unpacked}

-- PLACE BY PLACE

-- one more is laid where the others end; past the end of the buffer `set` changes nothing
pub laid_last : (rs : List ℕ) (v : ℕ) (bs : List ℕ) → laid (rs ++ (v ∷ [])) bs ≡ set (laid rs bs) (length rs) v
laid_last [] v [] = refl
laid_last [] v (b ∷ bs) = refl
laid_last (r ∷ rs) v [] = refl
laid_last (r ∷ rs) v (b ∷ bs) = ap (λ (l : List ℕ). r ∷ l) (laid_last rs v bs)

pub laid_at : (rs bs : List ℕ) (i : ℕ) → i < length rs → i < length bs → get_or (laid rs bs) i 0 ≡ get_or rs i 0
laid_at [] bs i h l = absurd (omega arith)
laid_at (r ∷ rs) [] i h l = absurd (omega arith)
laid_at (r ∷ rs) (b ∷ bs) zero h l = refl
laid_at (r ∷ rs) (b ∷ bs) (suc i) h l = laid_at rs bs i (omega arith) (omega arith)

pub take_laid : (rs bs : List ℕ) (n : ℕ) → n ≤ length rs → n ≤ length bs → take n (laid rs bs) ≡ take n rs
take_laid rs bs zero h l = refl
take_laid [] bs (suc n) h l = absurd (omega arith)
take_laid (r ∷ rs) [] (suc n) h l = absurd (omega arith)
take_laid (r ∷ rs) (b ∷ bs) (suc n) h l = ap (λ (x : List ℕ). r ∷ x) (take_laid rs bs n (omega arith) (omega arith))

drop_laid : (n : ℕ) (xs bs : List ℕ) → drop n (laid xs bs) ≡ laid (drop n xs) (drop n bs)
drop_laid zero xs bs = refl
drop_laid (suc n) [] bs = refl
drop_laid (suc n) (x ∷ xs) [] = sym (laid_nothing (drop n xs))
drop_laid (suc n) (x ∷ xs) (b ∷ bs) = drop_laid n xs bs

-- what was laid at the front is read there
filled_laid : (d : ℕ) (xs ys bs : List ℕ) → length xs ≤ length bs → filled d (length xs) (laid (xs ++ ys) bs) ≡ xs
filled_laid d [] ys bs h = refl
filled_laid d (x ∷ xs) ys [] h = absurd (omega arith)
filled_laid d (x ∷ xs) ys (b ∷ bs) h = ap (λ (l : List ℕ). x ∷ l) (filled_laid d xs ys bs (omega arith))

-- a table over zeros, of a function that is 0 past the table
table_at : (n : ℕ) (f : ℕ → ℕ) (ws : List ℕ) (i : ℕ) → n ≤ length ws → ((j : ℕ) → get_or ws j 0 ≡ 0) → ((j : ℕ) → n ≤ j → f j ≡ 0)
    → get_or (laid (tabulate n f) ws) i 0 ≡ f i
table_at zero f ws i h z p = z i ∙ sym (p i (omega arith))
table_at (suc n) f [] i h z p = absurd (omega arith)
table_at (suc n) f (w ∷ ws) zero h z p = refl
table_at (suc n) f (w ∷ ws) (suc i) h z p =
    table_at n (λ j. f (suc j)) ws i (omega arith) (λ j. z (suc j)) (λ j (l : n ≤ j). p (suc j) (omega arith))

-- WORD BY WORD

-- the total ends before a word that it does not count
pub total_ends : (k total m : ℕ) → 0 < per_word k → word_count k total ≤ m → total ≤ per_word k * m
total_ends k total m h l = omega (arith, enough_words k total h, mul-le-mul_left (per_word k) l)

pub unpack_take : (o : BitOrder) (k total m : ℕ) (rs : List ℕ) → 0 < per_word k → word_count k total ≤ m
    → unpack_words o k total (take m rs) ≡ unpack_words o k total rs
unpack_take o k total m rs h l = unpack_past o k total m rs (total_ends k total m h l)

pub word_past : (o : BitOrder) (k total i : ℕ) (xs : List ℕ) → total ≤ per_word k * i → word_at o k total xs i ≡ 0
word_past o k total i xs h =
    let none : count_at k total i ≡ 0 = omega arith in
    ap (λ (c : ℕ). pack o k (filled (dummy k) c (drop (per_word k * i) xs))) none

-- the words of xs, laid over words that are all 0
pub packed_at : (o : BitOrder) (k total i : ℕ) (xs ws : List ℕ) → 0 < per_word k → ((j : ℕ) → get_or ws j 0 ≡ 0)
    → word_count k total ≤ length ws
    → get_or (laid (pack_words o k total xs) ws) i 0 ≡ word_at o k total xs i
packed_at o k total i xs ws h z l =
    table_at (word_count k total) (word_at o k total xs) ws i l z (λ j t. word_past o k total j xs (total_ends k total j h t))

-- IN PLACE: word i of a buffer over which received words were unpacked is received word i, and past those the buffer's own
pub in_place_word : (o : BitOrder) (k total i : ℕ) (rs buf : List ℕ) → length buf ≡ total
    → word_at o k total (laid (unpack_words o k total rs) buf) i
    ≡ cond (ltb i (length rs)) (cut_word k total i (get_or rs i 0)) (word_at o k total buf i)
in_place_word o k total i [] buf h = rw (leb-suc-zero i)
in_place_word o k total zero (w ∷ rs) buf h =
    let c = min (per_word k) total in
    let front : filled (dummy k) c (laid (unpack o k c w ++ unpack_words o k (total - per_word k) rs) buf) ≡ unpack o k c w =
    subst (λ (n : ℕ). filled (dummy k) n (laid (unpack o k c w ++ unpack_words o k (total - per_word k) rs) buf) ≡ unpack o k c w)
    (length_unpack o k c w)
    (filled_laid (dummy k) (unpack o k c w) (unpack_words o k (total - per_word k) rs) buf (omega (arith, length_unpack o k c w))) in
    rw (mul-zero (per_word k), sub-zero total, leb-suc-suc 0 (length rs), leb-zero (length rs)) (ap (pack o k) front ∙ pack_unpack o k c w)
in_place_word o k total (suc i) (w ∷ rs) buf h =
    let later = drop (per_word k) buf in
    word_suc o k total i (laid (unpack_words o k total (w ∷ rs)) buf)
    ∙ ap (λ (xs : List ℕ). word_at o k (total - per_word k) xs i)
    (drop_laid (per_word k) (unpack_words o k total (w ∷ rs)) buf ∙ ap (λ (xs : List ℕ). laid xs later) (drop_unpacked o k total w rs))
    ∙ in_place_word o k (total - per_word k) i rs later (length-drop (per_word k) buf ∙ ap (λ (n : ℕ). n - per_word k) h)
    ∙ rw (leb-suc-suc (suc i) (length rs), word_suc o k total i buf, left_suc k total i)
