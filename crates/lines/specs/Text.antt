-- Bytes as text: parts between separators, and numbers of digits.
-- Assumes nothing.
use Rattle.std.specs.Prelude.{ℕ, zero, suc, ◌+◌, ◌-◌, ◌*◌, ◌/◌, ◌%◌, Bool, true, false, cond, List, [], ◌∷◌, ◌++◌, eqb, ltb}
use Rattle.std.specs.Prelude.{Option, Some, None, option_and_then}
use Rattle.std.specs.List.{slice_split}
use Rattle.words.specs.Word.{laid}

abbrev pub newline : ℕ
newline = 10

abbrev pub space : ℕ
space = 32

-- PARTS

-- the parts of a text between separators: n separators make n + 1 parts
abbrev pub split : ℕ → List ℕ → List (List ℕ)
split s = slice_split (λ b. eqb b s)

-- NUMBERS

-- what follows a value, if there is one
abbrev pub bind : {A B : Type 0} → Option A → (A → Option B) → Option B
bind o f = option_and_then f o

-- a value that passes a test
abbrev pub only : {A : Type 0} → Bool → A → Option A
only true a = Some a
only false a = None

-- the value of a digit: 0 to 9, A to F, and a to f
abbrev pub digit : ℕ → Option ℕ
digit b =
    cond (ltb b 48) None
    (cond (ltb b 58) (Some (b - 48))
    (cond (ltb b 65) None
    (cond (ltb b 71) (Some (b - 55))
    (cond (ltb b 97) None (cond (ltb b 103) (Some (b - 87)) None)))))

-- a digit of a base
abbrev pub digit_in : ℕ → ℕ → Option ℕ
digit_in base b = bind (digit b) (λ d. only (ltb d base) d)

-- the number n, and more digits after it
abbrev pub numeral_from : ℕ → ℕ → List ℕ → Option ℕ
numeral_from base n [] = Some n
numeral_from base n (b ∷ bs) = bind (digit_in base b) (λ d. numeral_from base (n * base + d) bs)

-- a number has a digit
abbrev pub numeral : ℕ → List ℕ → Option ℕ
numeral base [] = None
numeral base (b ∷ bs) = numeral_from base 0 (b ∷ bs)

-- PRINTED

-- a digit, letters as capitals
abbrev pub glyph : ℕ → ℕ
glyph d = cond (ltb d 10) (48 + d) (55 + d)

-- the last k digits of a number
abbrev pub digits : ℕ → ℕ → ℕ → List ℕ
digits base zero n = []
digits base (suc k) n = digits base k (n / base) ++ (glyph (n % base) ∷ [])

-- how many decimal digits a number below 100,000 has; accesses and answers are at most 8,000
abbrev pub places : ℕ → ℕ
places n = cond (ltb n 10) 1 (cond (ltb n 100) 2 (cond (ltb n 1000) 3 (cond (ltb n 10000) 4 5)))

abbrev pub decimal : ℕ → List ℕ
decimal n = digits 10 (places n) n

-- a buffer with a text from a place on; what has no room is dropped (private contracts cite it)
abbrev pub written : List ℕ → ℕ → List ℕ → List ℕ
written out zero text = laid text out
written [] (suc at) text = []
written (b ∷ bs) (suc at) text = b ∷ written bs at text
