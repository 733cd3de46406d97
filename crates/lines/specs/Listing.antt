-- The output of `buslog` (document 01): accesses, read elements, and the result.
-- Assumes nothing.
use Rattle.std.specs.Prelude.{ℕ, ◌/◌, ◌%◌, cond, List, [], ◌∷◌, ◌++◌, ltb, codes}
use Rattle.lines.specs.Text.{newline, space, digits, decimal}

-- R or W, offset, value
abbrev pub kind : ℕ → List ℕ
kind at = cond (ltb at 0x1000) (codes "R ") (codes "W ")

abbrev pub access_line : ℕ → ℕ → List ℕ
access_line at value = kind at ++ (digits 16 2 (at % 0x1000) ++ ((space ∷ []) ++ (digits 16 8 value ++ (newline ∷ []))))

abbrev pub access_lines : List ℕ → List ℕ
access_lines [] = []
access_lines (at ∷ []) = []
access_lines (at ∷ value ∷ log) = access_line at value ++ access_lines log

-- read elements one a line in the width's digits
abbrev pub element_line : ℕ → ℕ → List ℕ
element_line k x = digits 16 (k / 4) x ++ (newline ∷ [])

abbrev pub element_lines : ℕ → List ℕ → List ℕ
element_lines k [] = []
element_lines k (x ∷ xs) = element_line k x ++ element_lines k xs

-- result, accesses, answers used
abbrev pub result_line : ℕ → ℕ → ℕ → List ℕ
result_line number accesses answers =
    decimal number ++ ((space ∷ []) ++ (decimal accesses ++ ((space ∷ []) ++ (decimal answers ++ (newline ∷ [])))))
