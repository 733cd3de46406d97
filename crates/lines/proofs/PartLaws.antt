-- The parts of a text between separators: the first, and what a part too many makes of a line and of a text.
-- Assumes nothing.
use Rattle.std.proofs.Common.{ℕ, suc, ◌+◌, ◌<◌, ◌≤◌, ◌≡◌, Bool, true, false, cond, not, List, [], ◌∷◌, None, Some}
use Rattle.std.proofs.Common.{length, take, drop, ◌-◌, length-drop, eqb, ltb, refl, ap, arith}
use borrow.Author.Tests.{ltb-true, ltb-false}
use Rattle.std.specs.List.{position, position_or_len, onto_first}
use Rattle.std.proofs.Math.Seq.{take_all}
use Rattle.std.proofs.lemmas.List.Splits.{slice_split_first, length-slice_split}
use Rattle.lines.specs.Text.{newline, split}
use Rattle.lines.specs.Grammar.{header, lines}

-- no separator
split_last : (s : ℕ) (bs : List ℕ) → length bs ≤ position_or_len (λ b. eqb b s) bs → split s bs ≡ bs ∷ []
split_last s [] h = refl
split_last s (b ∷ bs) h = by_test (eqb b s) h (λ l. split_last s bs l)
  where
    by_test : (t : Bool) → suc (length bs) ≤ cond (not t) (1 + (position_or_len (λ b. eqb b s) bs)) 0
        → (length bs ≤ position_or_len (λ b. eqb b s) bs → split s bs ≡ bs ∷ [])
        → cond t ([] ∷ split s bs) (onto_first b (split s bs)) ≡ (b ∷ bs) ∷ []
    by_test true l f = absurd (omega arith)
    by_test false l f = ap (onto_first b) (f (omega arith))

pub only_part : (s : ℕ) (bs : List ℕ) → position (λ b. eqb b s) bs ≡ None → split s bs ≡ bs ∷ []
only_part s bs e = by_test (ltb n (length bs)) refl
  where
    n : ℕ
    n = position_or_len (λ b. eqb b s) bs

    by_test : (t : Bool) → ltb n (length bs) ≡ t → split s bs ≡ bs ∷ []
    by_test true h = let m : position (λ b. eqb b s) bs ≡ Some n = ap (λ (u : Bool). cond u (Some n) None) h in cc
    by_test false h = split_last s bs (ltb-false n (length bs) h)

-- the first separator
pub first_part : (s i : ℕ) (bs : List ℕ) → position (λ b. eqb b s) bs ≡ Some i
    → split s bs ≡ take i bs ∷ split s (take (length bs - (i + 1)) (drop (i + 1) bs))
first_part s i bs e = by_test (ltb n (length bs)) refl
  where
    n : ℕ
    n = position_or_len (λ b. eqb b s) bs

    by_test : (t : Bool) → ltb n (length bs) ≡ t → split s bs ≡ take i bs ∷ split s (take (length bs - (i + 1)) (drop (i + 1) bs))
    by_test true h =
        let m : n ≡ i = let k : position (λ b. eqb b s) bs ≡ Some n = ap (λ (u : Bool). cond u (Some n) None) h in cc in
        let all : take (length bs - (i + 1)) (drop (i + 1) bs) ≡ drop (i + 1) bs =
        take_all (length bs - (i + 1)) (drop (i + 1) bs) (omega (arith, length-drop (i + 1) bs)) in
        rw (all, ← m) (slice_split_first (λ b. eqb b s) bs 0 (ltb-true n (length bs) h))
    by_test false h = let m : position (λ b. eqb b s) bs ≡ None = ap (λ (u : Bool). cond u (Some n) None) h in cc

-- a fourth field on the first line
pub four_fields : (w o n : List ℕ) (s : ℕ) (bs : List ℕ) → header (w ∷ o ∷ n ∷ split s bs) ≡ None
four_fields w o n s bs = many (split s bs) (omega (arith, length-slice_split (λ b. eqb b s) bs))
  where
    many : (ps : List (List ℕ)) → 0 < length ps → header (w ∷ o ∷ n ∷ ps) ≡ None
    many [] l = absurd (omega arith)
    many (p ∷ ps) l = refl

-- text behind the last line
pub fifth_line : (a b c d : List ℕ) (bs : List ℕ) → 0 < length bs → lines (a ∷ b ∷ c ∷ d ∷ split newline bs) ≡ None
fifth_line a b c d [] l = absurd (omega arith)
fifth_line a b c d (x ∷ xs) l = by_test (eqb x newline) (split newline xs) (omega (arith, length-slice_split (λ b. eqb b newline) xs))
  where
    by_test : (t : Bool) (ps : List (List ℕ)) → 0 < length ps → lines (a ∷ b ∷ c ∷ d ∷ cond t ([] ∷ ps) (onto_first x ps)) ≡ None
    by_test t [] m = absurd (omega arith)
    by_test true (p ∷ ps) m = refl
    by_test false (p ∷ []) m = refl
    by_test false (p ∷ q ∷ qs) m = refl
