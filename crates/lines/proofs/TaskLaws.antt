-- What every task of a text has.
-- Assumes nothing.
use Rattle.std.proofs.Common.{ℕ, zero, suc, ◌^◌, ◌<◌, ◌≤◌, ◌≡◌, ◌⊎◌, inl, inr, Bool, true, false, List, [], ◌∷◌, Option, Some, None}
use Rattle.std.proofs.Common.{length, get_or, ltb, leb, refl, subst, arith}
use Rattle.std.proofs.Math.Pow.{pow_pos}
use borrow.Author.Tests.{ltb-true, leb-true}
use Rattle.words.specs.declared.width.Width.{Width}
use Rattle.words.specs.declared.width.Width.TheVariants.{U8, U16, U32}
use Rattle.words.specs.Width.{width_bits}
use Rattle.lines.specs.declared.parse.Header.{Header}
use Rattle.lines.specs.Text.{newline, space, split, bind, only, numeral}
use Rattle.lines.specs.Grammar.{Task, Sound, small, count, element, elements, line_elements, width_of, order_of, header, asked_with, asked, lines, task}
use Rattle.lines.proofs.ElementLaws.{element_below}

-- a value that two steps gave, and what each gave
record Bound {A B : Type 0} (o : Option A) (f : A → Option B) (b : B) : Type 0 where
  value : A
  first : o ≡ Some value
  second : f value ≡ Some b

bound : {A B : Type 0} (o : Option A) (f : A → Option B) (b : B) → bind o f ≡ Some b → Bound o f b
bound None f b e = cc
bound (Some a) f b e = record { value = a; first = refl; second = e }

-- a value that passed a test
passed : {A : Type 0} (t : Bool) (a b : A) → only t a ≡ Some b → (t ≡ true) × (a ≡ b)
passed true a b e = (refl, cc)
passed false a b e = cc

at_most : (m n : ℕ) (o : Option ℕ) → bind o (λ x. only (leb x m) x) ≡ Some n → n ≤ m
at_most m n o e =
    let b = bound o (λ x. only (leb x m) x) n e in
    let p = passed (leb b.value m) b.value n b.second in
    omega (arith, p.1, leb-true b.value m p.0)

count_below : (field : List ℕ) (n : ℕ) → count field ≡ Some n → n < 2 ^ 32
count_below field n e =
    let b = bound (numeral 10 field) small n e in
    let p = passed (ltb b.value (2 ^ 32)) b.value n b.second in
    omega (arith, p.1, ltb-true b.value (2 ^ 32) p.0)

elements_below : (k : ℕ) (fs : List (List ℕ)) (xs : List ℕ) → elements k fs ≡ Some xs → (i : ℕ) → get_or xs i 0 < 2 ^ k
elements_below k [] xs e i = let n : [] ≡ xs = cc in subst (λ (l : List ℕ). get_or l i 0 < 2 ^ k) n (pow_pos k)
elements_below k (f ∷ fs) xs e i =
    let b = bound (element k f) (λ x. bind (elements k fs) (λ xs. Some (x ∷ xs))) xs e in
    let m = bound (elements k fs) (λ xs. Some (b.value ∷ xs)) xs b.second in
    let n : b.value ∷ m.value ≡ xs = let s = m.second in cc in
    subst (λ (l : List ℕ). get_or l i 0 < 2 ^ k) n
    (at b.value m.value i (element_below k f b.value b.first) (elements_below k fs m.value m.first))
  where
    at : (x : ℕ) (xs : List ℕ) (i : ℕ) → x < 2 ^ k → ((i : ℕ) → get_or xs i 0 < 2 ^ k) → get_or (x ∷ xs) i 0 < 2 ^ k
    at x xs zero h r = h
    at x xs (suc i) h r = r i

line_below : (k most : ℕ) (line xs : List ℕ) → line_elements k most line ≡ Some xs → (length xs ≤ most) × ((i : ℕ) → get_or xs i 0 < 2 ^ k)
line_below k most [] xs e =
    let n : [] ≡ xs = cc in subst (λ (l : List ℕ). (length l ≤ most) × ((i : ℕ) → get_or l i 0 < 2 ^ k)) n (omega arith, λ i. pow_pos k)
line_below k most (b ∷ bs) xs e =
    let m = bound (elements k (split space (b ∷ bs))) (λ xs. only (leb (length xs) most) xs) xs e in
    let p = passed (leb (length m.value) most) m.value xs m.second in
    subst (λ (l : List ℕ). (length l ≤ most) × ((i : ℕ) → get_or l i 0 < 2 ^ k)) p.1
    (leb-true (length m.value) most p.0, elements_below k (split space (b ∷ bs)) m.value m.first)

-- the first line
named : (w : Width) → (width_bits w ≡ 8) ⊎ (width_bits w ≡ 16) ⊎ (width_bits w ≡ 32)
named U8 = inl refl
named U16 = inr (inl refl)
named U32 = inr (inr refl)

header_below : (fs : List (List ℕ)) (s : Header) → header fs ≡ Some s → s.budget < 2 ^ 32
header_below [] s e = cc
header_below (w ∷ []) s e = cc
header_below (w ∷ o ∷ []) s e = cc
header_below (w ∷ o ∷ n ∷ []) s e =
    let k =
    bound (width_of w)
    (λ k. bind (order_of o) (λ order. bind (count n) (λ budget. Some (record { width = k; order = order; budget = budget }))))
    s e in
    let r =
    bound (order_of o)
    (λ order. bind (count n) (λ budget. Some (record { width = k.value; order = order; budget = budget }))) s k.second in
    let b = bound (count n) (λ budget. Some (record { width = k.value; order = r.value; budget = budget })) s r.second in
    let m : record { width = k.value; order = r.value; budget = b.value } ≡ s = let q = b.second in cc in
    subst (λ (h : Header). h.budget < 2 ^ 32) m (count_below n b.value b.first)
header_below (w ∷ o ∷ n ∷ x ∷ xs) s e = cc

with_sound : (s : Header) (write read script : List ℕ) (j : Task) → s.budget < 2 ^ 32 → asked_with s write read script ≡ Some j → Sound j
with_sound s write read script j h e =
    let k = width_bits s.width in
    let few : Option ℕ = bind (count read) (λ n. only (leb n 512) n) in
    let w =
    bound (line_elements k 512 write)
    (λ ws.
    bind few (λ n. bind (line_elements 32 8000 script) (λ vs. Some (record { header = s; write = ws; read = n; script = vs }))))
    j e in
    let n =
    bound few
    (λ n. bind (line_elements 32 8000 script) (λ vs. Some (record { header = s; write = w.value; read = n; script = vs })))
    j w.second in
    let v =
    bound (line_elements 32 8000 script)
    (λ vs. Some (record { header = s; write = w.value; read = n.value; script = vs }))
    j n.second in
    let l = line_below k 512 write w.value w.first in
    let m : record { header = s; write = w.value; read = n.value; script = v.value } ≡ j = let q = v.second in cc in
    subst Sound m
    (record { width = named s.width; budget = h; write = l.0; read = at_most 512 n.value (count read) n.first; elements = l.1 })

asked_sound : (first write read script : List ℕ) (j : Task) → asked first write read script ≡ Some j → Sound j
asked_sound first write read script j e =
    let h = bound (header (split space first)) (λ s. asked_with s write read script) j e in
    with_sound h.value write read script j (header_below (split space first) h.value h.first) h.second

lines_sound : (ps : List (List ℕ)) (j : Task) → lines ps ≡ Some j → Sound j
lines_sound [] j e = cc
lines_sound (a ∷ []) j e = cc
lines_sound (a ∷ b ∷ []) j e = cc
lines_sound (a ∷ b ∷ c ∷ []) j e = cc
lines_sound (a ∷ b ∷ c ∷ d ∷ []) j e = asked_sound a b c d j e
lines_sound (a ∷ b ∷ c ∷ d ∷ [] ∷ []) j e = asked_sound a b c d j e
lines_sound (a ∷ b ∷ c ∷ d ∷ (x ∷ xs) ∷ []) j e = cc
lines_sound (a ∷ b ∷ c ∷ d ∷ x ∷ y ∷ ys) j e = cc

-- every task of a text
pub task_sound : (text : List ℕ) (j : Task) → task text ≡ Some j → Sound j
task_sound text j e = lines_sound (split newline text) j e
