-- What holds of the numbers of a list of elements, whatever their type.
-- Assumes nothing.
use Rattle.std.proofs.Common.{◌≡◌, ℕ, ◌<◌, List, ◌++◌, length, get_or, take, drop, set, sym, ap, ap₂, ◌∙◌}
use Rattle.std.specs.List.{take-map, drop-map}
use Rattle.std.proofs.lemmas.List.{get_or-map, length-map, map-append, map-set}
use borrow.Rule.Slice.PartMut.{put_mid}
use Rattle.words.specs.Elements.{ElementLaws}

module _ {E : Type 0} {number : E → ℕ} {numbers : List E → List ℕ} (laws : ElementLaws number numbers) where
  pub length_numbers : (xs : List E) → length (numbers xs) ≡ length xs
  length_numbers xs = ap length (laws.each xs) ∙ length-map xs number

  pub numbers_set : (xs : List E) (i : ℕ) (x : E) → numbers (set xs i x) ≡ set (numbers xs) i (number x)
  numbers_set xs i x = laws.each (set xs i x) ∙ map-set number xs i x ∙ ap (λ (l : List ℕ). set l i (number x)) (sym (laws.each xs))

  pub numbers_take : (n : ℕ) (xs : List E) → numbers (take n xs) ≡ take n (numbers xs)
  numbers_take n xs = laws.each (take n xs) ∙ sym (take-map number n xs) ∙ ap (take n) (sym (laws.each xs))

  numbers_drop : (n : ℕ) (xs : List E) → numbers (drop n xs) ≡ drop n (numbers xs)
  numbers_drop n xs = laws.each (drop n xs) ∙ sym (drop-map number n xs) ∙ ap (drop n) (sym (laws.each xs))

  numbers_append : (xs ys : List E) → numbers (xs ++ ys) ≡ numbers xs ++ numbers ys
  numbers_append xs ys =
      laws.each (xs ++ ys) ∙ map-append number xs ys ∙ ap₂ (λ (a b : List ℕ). a ++ b) (sym (laws.each xs)) (sym (laws.each ys))

  -- the front of a buffer, and a part of it
  pub numbers_front : (n : ℕ) (xs ys : List E) → numbers (ys ++ drop n xs) ≡ numbers ys ++ drop n (numbers xs)
  numbers_front n xs ys = numbers_append ys (drop n xs) ∙ ap (λ (a : List ℕ). numbers ys ++ a) (numbers_drop n xs)

  pub numbers_part : (at n : ℕ) (xs : List E) → numbers (take n (drop at xs)) ≡ take n (drop at (numbers xs))
  numbers_part at n xs = numbers_take n (drop at xs) ∙ ap (take n) (numbers_drop at xs)

  pub numbers_put : (at n : ℕ) (xs ys : List E) → numbers (put_mid at n xs ys) ≡ put_mid at n (numbers xs) (numbers ys)
  numbers_put at n xs ys =
      numbers_append (take at xs) (ys ++ drop n (drop at xs))
      ∙ ap₂ (λ (a b : List ℕ). a ++ b) (numbers_take at xs)
      (numbers_front n (drop at xs) ys ∙ ap (λ (a : List ℕ). numbers ys ++ drop n a) (numbers_drop at xs))

  -- the number at a place, as a read gives it
  pub number_at : (xs : List E) (i d : ℕ) (x : E) → i < length xs → x ≡ get_or xs i x → number x ≡ get_or (numbers xs) i d
  number_at xs i d x h e = ap number e ∙ sym (get_or-map number xs i x d h) ∙ ap (λ (l : List ℕ). get_or l i d) (sym (laws.each xs))
