-- The elements of a line, a field at a time.
-- Assumes nothing.
use Rattle.std.proofs.Common.{ℕ, zero, suc, ◌+◌, ◌*◌, ◌/◌, ◌^◌, ◌<◌, ◌≤◌, ◌≡◌, Bool, true, false, cond, List, [], ◌∷◌, ◌++◌, Option, None, Some}
use Rattle.std.proofs.Common.{length, leb, eqb, refl, sym, ap, arith, append_assoc, append-nil, length-append, take, set, add-one, ◌∙◌, length-take-le}
use Rattle.std.proofs.Math.Nat.{pow-suc, mul-suc}
use Rattle.std.proofs.Math.Pow.{pow-add, pow_mono}
use Rattle.std.proofs.Math.Seq.{take-suc-set}
use Rattle.words.specs.Elements.{ElementLaws}
use Rattle.words.proofs.Numbers.{length_numbers, numbers_set, numbers_take}
use borrow.Author.Tests.{lt-leb, le-leb, leb-true, eqb-true}
use Rattle.lines.specs.Text.{space, split, bind, only, numeral}
use Rattle.lines.specs.Grammar.{element, elements, line_elements}
use Rattle.lines.proofs.TextLaws.{numeral_below}

-- those before, and the fields that are left
abbrev pub togo : ℕ → ℕ → List ℕ → List (List ℕ) → Option (List ℕ)
togo k most before fs = bind (elements k fs) (λ xs. only (leb (length (before ++ xs)) most) (before ++ xs))

pub togo_start : (k most : ℕ) (line : List ℕ) → false ≡ eqb (length line) 0 → togo k most [] (split space line) ≡ line_elements k most line
togo_start k most [] h = cc
togo_start k most (b ∷ bs) h = refl

pub togo_none : (k most : ℕ) (line : List ℕ) → true ≡ eqb (length line) 0 → togo k most [] [] ≡ line_elements k most line
togo_none k most [] h = rw (le-leb 0 most (omega arith))
togo_none k most (b ∷ bs) h = let e : suc (length bs) ≡ 0 = eqb-true (suc (length bs)) 0 (sym h) in absurd (omega arith)

pub togo_bad : (k most : ℕ) (before f : List ℕ) (fs : List (List ℕ)) → element k f ≡ None → togo k most before (f ∷ fs) ≡ None
togo_bad k most before f fs e = rw e

pub togo_more : (k most x : ℕ) (before f : List ℕ) (fs : List (List ℕ)) → element k f ≡ Some x
    → togo k most before (f ∷ fs) ≡ togo k most (before ++ (x ∷ [])) fs
togo_more k most x before f fs e = rw e (by_rest (elements k fs))
  where
    by_rest : (o : Option (List ℕ)) → bind (bind o (λ xs. Some (x ∷ xs))) (λ xs. only (leb (length (before ++ xs)) most) (before ++ xs))
        ≡ bind o (λ xs. only (leb (length ((before ++ (x ∷ [])) ++ xs)) most) ((before ++ (x ∷ [])) ++ xs))
    by_rest None = refl
    by_rest (Some xs) = ap (λ (l : List ℕ). only (leb (length l) most) l) (sym (append_assoc before (x ∷ []) xs))

-- a field more than elements may be
pub togo_full : (k most x : ℕ) (before f : List ℕ) (fs : List (List ℕ)) → element k f ≡ Some x → most ≤ length before
    → togo k most before (f ∷ fs) ≡ None
togo_full k most x before f fs e h = rw e (by_rest (elements k fs))
  where
    by_rest : (o : Option (List ℕ)) → bind (bind o (λ xs. Some (x ∷ xs))) (λ xs. only (leb (length (before ++ xs)) most) (before ++ xs)) ≡ None
    by_rest None = refl
    by_rest (Some xs) = rw (lt-leb (length (before ++ (x ∷ xs))) most (omega (arith, length-append before (x ∷ xs))))

pub togo_end : (k most : ℕ) (before : List ℕ) → length before ≤ most → togo k most before [] ≡ Some before
togo_end k most before h = rw (append-nil before, le-leb (length before) most h)

-- an element has at most the width's digits
sixteen : (j : ℕ) → 16 ^ j ≡ 2 ^ (4 * j)
sixteen zero = refl
sixteen (suc j) = omega (arith, pow-suc 16 j, sixteen j, pow-add 2 (4 * j) 4, ap (λ (m : ℕ). 2 ^ m) (mul-suc 4 j))

pub element_below : (k : ℕ) (field : List ℕ) (x : ℕ) → element k field ≡ Some x → x < 2 ^ k
element_below k field x = by_test (leb (length field) (k / 4)) refl
  where
    by_test : (t : Bool) → leb (length field) (k / 4) ≡ t → cond t (numeral 16 field) None ≡ Some x → x < 2 ^ k
    by_test true t e =
        let l = numeral_below (k / 4) x field (leb-true (length field) (k / 4) t) e in
        omega (arith, l, sixteen (k / 4), pow_mono {i = 4 * (k / 4)} {j = k} (omega arith))
    by_test false t e = cc

-- one more stored behind those before
module _ {E : Type 0} {number : E → ℕ} {numbers : List E → List ℕ} (laws : ElementLaws number numbers) where
  pub stored : (out : List E) (n : ℕ) (x : E) → n < length out → numbers (take (n + 1) (set out n x)) ≡ numbers (take n out) ++ (number x ∷ [])
  stored out n x h =
      numbers_take laws (n + 1) (set out n x)
      ∙ ap (take (n + 1)) (numbers_set laws out n x)
      ∙ ap (λ (m : ℕ). take m (set (numbers out) n (number x))) (add-one n)
      ∙ take-suc-set (numbers out) n (number x) (omega (arith, length_numbers laws out))
      ∙ ap (λ (xs : List ℕ). xs ++ (number x ∷ [])) (sym (numbers_take laws n out))

  pub length_before : (out : List E) (n : ℕ) → n ≤ length out → length (numbers (take n out)) ≡ n
  length_before out n h = length_numbers laws (take n out) ∙ length-take-le n out h
