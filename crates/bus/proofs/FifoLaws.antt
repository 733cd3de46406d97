-- The places of a FIFO: its words, and zeros behind them. The first word leaves: each goes a place to the front, the last place is cleared.
-- Assumes nothing.
use Rattle.std.proofs.Common.{ℕ, zero, suc, ◌+◌, ◌-◌, ◌≤◌, ◌<◌, List, [], ◌∷◌, ◌++◌, ◌≡◌, refl, sym, ap, ap₂, ◌∙◌, length, inl, inr, get_or, take, replicate, set, length-take, length-take-le, length-set, arith}
use Rattle.std.specs.List.{CopiedTo}
use Rattle.std.proofs.lemmas.Bool.{cases_eq, cases_lt}
use Rattle.std.proofs.lemmas.Grind.{get_or-set_at}
use Rattle.std.proofs.lemmas.List.{get_or-set_other, get_or_past}
use Rattle.agreement.specs.End.{behind}

-- a list with zeros from place n on is its first n elements, and zeros
padded : (n k : ℕ) (ws : List ℕ) → length ws ≡ n + k → ((i : ℕ) → n ≤ i → get_or ws i 0 ≡ 0) → take n ws ++ replicate k 0 ≡ ws
padded zero zero [] l h = refl
padded zero zero (w ∷ ws) l h = absurd (omega (arith, l))
padded zero (suc k) [] l h = absurd (omega (arith, l))
padded zero (suc k) (w ∷ ws) l h =
    ap₂ (λ (x : ℕ) (xs : List ℕ). x ∷ xs) (sym (h 0 (omega arith)))
    (padded zero k ws (omega (arith, l)) (λ i le. h (suc i) (omega arith)))
padded (suc n) k [] l h = absurd (omega (arith, l))
padded (suc n) k (w ∷ ws) l h =
    ap (λ (xs : List ℕ). w ∷ xs) (padded n k ws (omega (arith, l)) (λ i le. h (suc i) (omega (arith, le))))

-- and behind those elements it has nothing but zeros
zeros_behind : (k : ℕ) (xs : List ℕ) (i : ℕ) → length xs ≤ i → get_or (xs ++ replicate k 0) i 0 ≡ 0
zeros_behind zero [] i h = refl
zeros_behind (suc k) [] zero h = refl
zeros_behind (suc k) [] (suc i) h = zeros_behind k [] i (omega arith)
zeros_behind k (x ∷ xs) zero h = absurd (omega (arith, h))
zeros_behind k (x ∷ xs) (suc i) h = zeros_behind k xs i (omega (arith, h))

-- two lists with the same elements at the front
same_front : (m : ℕ) (xs ys : List ℕ) → m ≤ length xs → m ≤ length ys → ((k : ℕ) → k < m → get_or xs k 0 ≡ get_or ys k 0)
    → take m xs ≡ take m ys
same_front zero xs ys l h same = refl
same_front (suc m) [] ys l h same = absurd (omega (arith, l))
same_front (suc m) (x ∷ xs) [] l h same = absurd (omega (arith, h))
same_front (suc m) (x ∷ xs) (y ∷ ys) l h same =
    ap₂ (λ (z : ℕ) (zs : List ℕ). z ∷ zs) (same 0 (omega arith))
    (same_front m xs ys (omega (arith, l)) (omega (arith, h)) (λ k lt. same (suc k) (omega (arith, lt))))

-- The n words of the places ws; vs are the places with each moved to the front.
module _ (n : ℕ) (ws vs : List ℕ) (some : ¬ (n ≡ 0)) (full : length ws ≡ 16) (within : length (take n ws) ≡ n)
    (same : length vs ≡ length ws) (copied : CopiedTo ws vs 1 0 15) where
  moved : (k : ℕ) → k < 15 → get_or vs k 0 ≡ get_or ws (suc k) 0
  moved k lt = copied k 0 (omega arith) lt ∙ ap (λ (j : ℕ). get_or ws j 0) (omega arith)

  few : n ≤ 16
  few = omega (arith, length-take n ws, within, full)

  long : length (set vs 15 0) ≡ 16
  long = length-set vs 15 0 ∙ same ∙ full

  -- zeros stand behind the words that are left
  cleared : take n ws ++ replicate (16 - n) 0 ≡ ws → (i : ℕ) → n - 1 ≤ i → get_or (set vs 15 0) i 0 ≡ 0
  cleared zeros i le =
      elim (cases_lt i 15) [
        | inl lt ↦ get_or-set_other vs 15 i 0 0 (λ e. absurd (omega (arith, e, lt))) ∙ moved i lt
            ∙ ap (λ (xs : List ℕ). get_or xs (suc i) 0) (sym zeros)
            ∙ zeros_behind (16 - n) (take n ws) (suc i) (omega (arith, within, le))
        | inr ge ↦
            elim (cases_eq i 15) [
              | inl e ↦ get_or-set_at vs 15 i 0 0 e (omega (arith, same, full))
              | inr ne ↦ get_or_past (set vs 15 0) i 0 (omega (arith, long, ge, ne))
            ]
      ]

  -- the invariant of the FIFO without its first word
  pub popped : take n ws ++ replicate (16 - n) 0 ≡ ws
      → (length (take (n - 1) (set vs 15 0)) ≡ n - 1) × (take (n - 1) (set vs 15 0) ++ replicate (16 - (n - 1)) 0 ≡ set vs 15 0)
  popped zeros = (
    length-take-le (n - 1) (set vs 15 0) (omega (arith, long, few)),
    padded (n - 1) (16 - (n - 1)) (set vs 15 0) (omega (arith, long, few, some)) (cleared zeros),
  )

-- and its words: those behind the first
pub left : (n : ℕ) (ws vs : List ℕ) → ¬ (n ≡ 0) → length ws ≡ 16 → length (take n ws) ≡ n → length vs ≡ length ws → CopiedTo ws vs 1 0 15
    → take (n - 1) (set vs 15 0) ≡ behind (take n ws)
left zero ws vs some full within same copied = absurd (some refl)
left (suc m) [] vs some full within same copied = absurd (omega (arith, full))
left (suc m) (w ∷ ws) vs some full within same copied =
    let m_le : m ≤ 15 = omega (arith, few (suc m) (w ∷ ws) vs some full within same copied) in
    ap (λ (j : ℕ). take j (set vs 15 0)) (omega arith)
    ∙ same_front m (set vs 15 0) ws (omega (arith, length-set vs 15 0, same, full, m_le)) (omega (arith, full, m_le))
    (λ k lt. get_or-set_other vs 15 k 0 0 (λ e. absurd (omega (arith, e, lt, m_le)))
    ∙ moved (suc m) (w ∷ ws) vs some full within same copied k (omega (arith, lt, m_le)))
