-- Elements of a transfer as numbers, whatever their type.
-- Assumes nothing.
use Rattle.std.specs.Prelude.{◌≡◌, ℕ, List, map}

-- a list of elements stands for the numbers of each
pub record ElementLaws {E : Type 0} (number : E → ℕ) (numbers : List E → List ℕ) : Type 0 where
  pub each : (xs : List E) → numbers xs ≡ map number xs
