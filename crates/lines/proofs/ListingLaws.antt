-- The lines of a listing, one after the other.
-- Assumes nothing.
use Rattle.std.proofs.Common.{ℕ, zero, suc, ◌+◌, ◌*◌, ◌/◌, ◌%◌, ◌<◌, ◌≤◌, ◌≡◌, List, [], ◌∷◌, ◌++◌, length, get_or, take, drop, map, refl, sym, ap, ◌∙◌, arith}
use Rattle.std.proofs.Common.{Bool, true, false, cond, ltb, codes, lit≤, length-append, drop-cons, add-one, drop_of_length-le}
use Rattle.std.proofs.Math.Nat.{mul-zero, mul-suc}
use Rattle.words.specs.declared.width.Width.{Width}
use Rattle.words.specs.declared.width.Width.TheVariants.{U8, U16, U32}
use Rattle.words.specs.Width.{width_bits}
use Rattle.words.specs.Elements.{ElementLaws}
use Rattle.lines.specs.Text.{newline, space, digits}
use Rattle.lines.specs.Listing.{kind, access_line, access_lines, element_line, element_lines}
use Rattle.lines.proofs.WrittenLaws.{length_digits}

-- ACCESSES

pub accesses_step : (log access others : List ℕ) (a v : ℕ) → 2 ≤ length log → access ≡ take 2 log → others ≡ drop 2 log
    → a ≡ get_or access 0 0 → v ≡ get_or access 1 0 → access_lines log ≡ access_line a v ++ access_lines others
accesses_step [] access others a v h e o x y = absurd (omega arith)
accesses_step (b ∷ []) access others a v h e o x y = absurd (omega arith)
accesses_step (b ∷ w ∷ log) access others a v h e o x y = rw (x, y, e, o)

pub accesses_end : (log : List ℕ) → length log < 2 → access_lines log ≡ []
accesses_end [] h = refl
accesses_end (a ∷ []) h = refl
accesses_end (a ∷ v ∷ log) h = absurd (omega arith)

pub length_access : (at value : ℕ) → length (access_line at value) ≡ 14
length_access at value =
    let two = digits 16 2 (at % 0x1000) in
    let eight = digits 16 8 value in
    let e₁ = length-append eight (newline ∷ []) in
    let e₂ = length-append (space ∷ []) (eight ++ (newline ∷ [])) in
    let e₃ = length-append two ((space ∷ []) ++ (eight ++ (newline ∷ []))) in
    length-append (kind at) (two ++ ((space ∷ []) ++ (eight ++ (newline ∷ []))))
    ∙ omega (arith, two_bytes (ltb at 0x1000), e₁, e₂, e₃, length_digits 16 2 (at % 0x1000), length_digits 16 8 value)
  where
    two_bytes : (t : Bool) → length (cond t (codes "R ") (codes "W ")) ≡ 2
    two_bytes true = refl
    two_bytes false = refl

-- exactly so long, of the pairs at the front (stated for a reader; the code goes by the bound behind it)
pub length_accesses : (log : List ℕ) (i n : ℕ) → n ≡ 2 * i → n ≤ length log → length (access_lines (take n log)) ≡ 14 * i
length_accesses log i zero e h = omega arith
length_accesses [] i (suc n) e h = absurd (omega arith)
length_accesses (a ∷ log) i (suc zero) e h = absurd (omega arith)
length_accesses (a ∷ []) i (suc (suc n)) e h = absurd (omega arith)
length_accesses (a ∷ v ∷ l) zero (suc (suc n)) e h = absurd (omega arith)
length_accesses (a ∷ v ∷ l) (suc i) (suc (suc n)) e h =
    length-append (access_line a v) (access_lines (take n l))
    ∙ omega (arith, length_access a v, length_accesses l i n (omega arith) (omega arith))

pub accesses_size : (log : List ℕ) → length (access_lines log) ≤ 7 * length log
accesses_size [] = omega arith
accesses_size (a ∷ []) = omega arith
accesses_size (a ∷ v ∷ log) =
    omega (arith, length-append (access_line a v) (access_lines log), length_access a v, accesses_size log)

-- ELEMENTS

-- an element has at most eight digits
pub element_size : (w : Width) → width_bits w / 4 + 1 ≤ 9
element_size U8 = lit≤ tt
element_size U16 = lit≤ tt
element_size U32 = lit≤ tt

pub length_element : (k x : ℕ) → length (element_line k x) ≡ k / 4 + 1
length_element k x = length-append (digits 16 (k / 4) x) (newline ∷ []) ∙ ap (λ (m : ℕ). m + 1) (length_digits 16 (k / 4) x)

pub length_elements : (k : ℕ) (xs : List ℕ) → length (element_lines k xs) ≡ (k / 4 + 1) * length xs
length_elements k [] = sym (mul-zero (k / 4 + 1))
length_elements k (x ∷ xs) =
    let m = mul-suc (k / 4 + 1) (length xs) in
    length-append (element_line k x) (element_lines k xs) ∙ omega (arith, m, length_element k x, length_elements k xs)

module _ {E : Type 0} {number : E → ℕ} {numbers : List E → List ℕ} (laws : ElementLaws number numbers) (k : ℕ) (xs : List E) (i : ℕ) where
  pub elements_step : (x : E) → i < length xs → x ≡ get_or xs i x
      → element_lines k (numbers (drop i xs)) ≡ element_line k (number x) ++ element_lines k (numbers (drop (i + 1) xs))
  elements_step x h e =
      ap (element_lines k)
      (laws.each (drop i xs) ∙ ap (map number) (drop-cons xs i x h ∙ ap (λ y. y ∷ drop (suc i) xs) (sym e)))
      ∙ ap (λ ys. element_line k (number x) ++ element_lines k ys)
      (sym (laws.each (drop (suc i) xs)) ∙ ap (λ j. numbers (drop j xs)) (sym (add-one i)))

  pub elements_end : length xs ≤ i → element_lines k (numbers (drop i xs)) ≡ []
  elements_end h = ap (element_lines k) (ap numbers (drop_of_length-le xs h) ∙ laws.each [])
