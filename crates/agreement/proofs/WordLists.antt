-- Runs of words in order: a word more at the end, a word less at the front; queues.
-- Assumes nothing.
use Prim.Native.Nat.{ℕ, zero, suc, ◌+◌, ◌-◌, ◌≤◌}
use mathlib.Core.Bool.{Bool, true, false, cond}
use mathlib.Core.List.{List, [], ◌∷◌, ◌++◌}
use mathlib.Core.Path.{◌≡◌, refl, ap, sym, ◌∙◌}
use native.Mathlib.Nat.{add-zero, add-suc, suc-add, zero-add}
use native.Mathlib.Omega.{arith}
use lib.ListN.{length, length-append}
use Rattle.words.specs.Buffer.{tabulate}
use Rattle.agreement.specs.End.{behind, emptied_if}

-- f a, f (a + 1), .., k of them
abbrev pub from : (ℕ → ℕ) → ℕ → ℕ → List ℕ
from f a zero = []
from f a (suc k) = f a ∷ from f (suc a) k

from_snoc : (f : ℕ → ℕ) (a k : ℕ) → from f a k ++ f (a + k) ∷ [] ≡ from f a (suc k)
from_snoc f a zero = rw add-zero
from_snoc f a (suc k) = ap (λ (l : List ℕ). f a ∷ l) (rw (add-suc, ← suc-add) (from_snoc f (suc a) k))

pub length_snoc : {A : Type 0} (q : List A) (v : A) → length (q ++ v ∷ []) ≡ suc (length q)
length_snoc q v = simp length-append (omega arith)

pub snoc_is : (f : ℕ → ℕ) (a : ℕ) (q : List ℕ) (v : ℕ) → q ≡ from f a (length q) → v ≡ f (a + length q)
    → q ++ v ∷ [] ≡ from f a (length (q ++ v ∷ []))
snoc_is f a q v p h = rw length_snoc (joined ∙ from_snoc f a (length q))
  where
    joined : q ++ v ∷ [] ≡ from f a (length q) ++ f (a + length q) ∷ []
    joined = cc

pub uncons : (f : ℕ → ℕ) (a v : ℕ) (q : List ℕ) → v ∷ q ≡ from f a (length (v ∷ q)) → (v ≡ f a) × (q ≡ from f (suc a) (length q))
uncons f a v q h = (cc, cc)

-- from place 0 they are a table
from_table : (f : ℕ → ℕ) (a k : ℕ) (g : ℕ → ℕ) → ((i : ℕ) → f (a + i) ≡ g i) → from f a k ≡ tabulate k g
from_table f a zero g h = refl
from_table f a (suc k) g h =
    let first : f a ≡ g 0 = ap f (sym (add-zero a)) ∙ h 0 in
    let rest = from_table f (suc a) k (λ i. g (suc i)) (λ i. ap f (suc-add a i ∙ sym (add-suc a i)) ∙ h (suc i)) in cc

pub all_from : (f : ℕ → ℕ) (k : ℕ) → from f 0 k ≡ tabulate k f
all_from f k = from_table f 0 k f (λ i. ap f (zero-add i))

pub length_behind : (q : List ℕ) → length (behind q) ≡ length q - 1
length_behind [] = refl
length_behind (v ∷ q) = omega arith

pub emptied_less : {A : Type 0} (b : Bool) (q : List A) → length (emptied_if b q) ≤ length q
emptied_less true q = omega arith
emptied_less false q = omega arith

pub emptied_is : (b : Bool) (q : List ℕ) (f : ℕ → ℕ) (a : ℕ) → q ≡ from f a (length q) → emptied_if b q ≡ from f a (length (emptied_if b q))
emptied_is true q f a h = refl
emptied_is false q f a h = h

-- FLAGS
pub lowered_set : (b t : Bool) → cond b false t ≡ true → t ≡ true
lowered_set true t h = cc
lowered_set false t h = h
