-- The input of `buslog` (document 01): four lines.
-- Assumes nothing.
use Rattle.std.specs.Prelude.{ℕ, ◌/◌, ◌^◌, ◌<◌, ◌≤◌, ◌≡◌, ◌⊎◌, get_or, cond, List, [], ◌∷◌, ltb, leb, length, codes, Option, Some, None}
use Rattle.std.specs.Str.{bytes_eq}
use Rattle.words.specs.declared.order.BitOrder.{BitOrder}
use Rattle.words.specs.declared.order.BitOrder.TheVariants.{Msb, Lsb}
use Rattle.words.specs.declared.width.Width.{Width}
use Rattle.words.specs.declared.width.Width.TheVariants.{U8, U16, U32}
use Rattle.words.specs.Width.{width_bits}
use Rattle.lines.specs.declared.parse.Header.{Header}
use Rattle.lines.specs.Text.{newline, space, split, bind, only, numeral}

-- what a technician asks for
pub record Task : Type 0 where
  pub header : Header
  pub write : List ℕ
  pub read : ℕ
  pub script : List ℕ

-- counts decimal, below 2^32
abbrev pub small : ℕ → Option ℕ
small n = only (ltb n (2 ^ 32)) n

abbrev pub count : List ℕ → Option ℕ
count field = bind (numeral 10 field) small

-- elements and script are hexadecimal, of at most the width's digits and 8 digits
abbrev pub element : ℕ → List ℕ → Option ℕ
element k field = cond (leb (length field) (k / 4)) (numeral 16 field) None

abbrev pub elements : ℕ → List (List ℕ) → Option (List ℕ)
elements k [] = Some []
elements k (f ∷ fs) = bind (element k f) (λ x. bind (elements k fs) (λ xs. Some (x ∷ xs)))

-- single spaces separate; the write line and the script line may be empty; at most so many
abbrev pub line_elements : ℕ → ℕ → List ℕ → Option (List ℕ)
line_elements k most [] = Some []
line_elements k most (b ∷ bs) = bind (elements k (split space (b ∷ bs))) (λ xs. only (leb (length xs) most) xs)

-- the width is exactly 8, 16 or 32
abbrev pub width_of : List ℕ → Option Width
width_of field =
    cond (bytes_eq field (codes "8")) (Some U8)
    (cond (bytes_eq field (codes "16")) (Some U16)
    (cond (bytes_eq field (codes "32")) (Some U32) None))

-- order (M or L)
abbrev pub order_of : List ℕ → Option BitOrder
order_of field = cond (bytes_eq field (codes "M")) (Some Msb) (cond (bytes_eq field (codes "L")) (Some Lsb) None)

-- width, order, budget: three fields
abbrev pub header : List (List ℕ) → Option Header
header [] = None
header (w ∷ []) = None
header (w ∷ o ∷ []) = None
header (w ∷ o ∷ n ∷ []) =
    bind (width_of w) (λ k.
    bind (order_of o) (λ order.
    bind (count n) (λ budget.
    Some (record { width = k; order = order; budget = budget }))))
header (w ∷ o ∷ n ∷ x ∷ xs) = None

-- at most 512 elements written, 512 read, 8,000 answers
abbrev pub asked_with : Header → List ℕ → List ℕ → List ℕ → Option Task
asked_with s write read script =
    bind (line_elements (width_bits s.width) 512 write) (λ ws.
    bind (bind (count read) (λ n. only (leb n 512) n)) (λ n.
    bind (line_elements 32 8000 script) (λ vs. Some (record { header = s; write = ws; read = n; script = vs }))))

abbrev pub asked : List ℕ → List ℕ → List ℕ → List ℕ → Option Task
asked first write read script = bind (header (split space first)) (λ s. asked_with s write read script)

-- four lines; after the last there may be a newline
abbrev pub lines : List (List ℕ) → Option Task
lines [] = None
lines (a ∷ []) = None
lines (a ∷ b ∷ []) = None
lines (a ∷ b ∷ c ∷ []) = None
lines (a ∷ b ∷ c ∷ d ∷ []) = asked a b c d
lines (a ∷ b ∷ c ∷ d ∷ [] ∷ []) = asked a b c d
lines (a ∷ b ∷ c ∷ d ∷ (e ∷ es) ∷ []) = None
lines (a ∷ b ∷ c ∷ d ∷ e ∷ f ∷ fs) = None

abbrev pub task : List ℕ → Option Task
task text = lines (split newline text)

-- what every task has
pub record Sound (j : Task) : Type 0 where
  pub width : (width_bits j.header.width ≡ 8) ⊎ (width_bits j.header.width ≡ 16) ⊎ (width_bits j.header.width ≡ 32)
  pub budget : j.header.budget < 2 ^ 32
  pub write : length j.write ≤ 512
  pub read : j.read ≤ 512
  pub elements : (i : ℕ) → get_or j.write i 0 < 2 ^ width_bits j.header.width
