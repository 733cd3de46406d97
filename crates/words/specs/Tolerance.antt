-- How far a wrong source figure moves the divider of the first clock entry (document 02, No. 13). Only laws cite it.
-- Assumes nothing.
use Rattle.std.specs.Prelude.{ℕ, ◌+◌, ◌*◌, ◌-◌, ◌/◌, ◌≤◌, ◌≡◌}
use Rattle.manual.specs.declared.Ccr.TheVariants.{SCKDIV}
use Rattle.manual.specs.declared.Field.TheVariants.{Ccr}
use Rattle.manual.specs.Manual.{read_field}
use Rattle.words.specs.Clock.{clocked, clock_word}

-- the word of CCR that the first clock entry answers
abbrev pub word_for : ℕ → ℕ → ℕ
word_for source clock = clock_word (clocked source clock).configs

-- by how much two numbers differ, whichever is the larger
abbrev pub distance : ℕ → ℕ → ℕ
distance m n = (m - n) + (n - m)

-- Of the words u and v of CCR that are answered to the source figures s and t, for the wanted clock c: "For a wanted clock c above 0 and
-- source figures above 0" (the laws' premises)
pub record Tolerance (c s t u v : ℕ) : Type 0 where
  -- "that differ by D, the two SCKDIV values of the first clock entry differ by at most 2 × (D div (2c) + 1)."
  pub bounded : distance (read_field (Ccr SCKDIV) u) (read_field (Ccr SCKDIV) v) ≤ 2 * (distance s t / (2 * c) + 1)
  -- "Figures that agree give equal words,"
  pub agreed : s ≡ t → u ≡ v
  -- "and a larger source never gives a smaller SCKDIV."
  pub ordered : s ≤ t → read_field (Ccr SCKDIV) u ≤ read_field (Ccr SCKDIV) v
