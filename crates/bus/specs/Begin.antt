-- The total length, and number 9, of the buffers' lengths alone, as the code has them.
-- Assumes nothing.
use Rattle.std.specs.Prelude.{ℕ, max, Bool, cond, ◌||◌}
use Rattle.words.specs.Width.{width_bits}
use Rattle.agreement.specs.declared.board.Board.{Board}
use Rattle.agreement.specs.Start.{unequal, unfit_by}

-- the total length, of the lengths of the buffers
abbrev pub total_by : Bool → ℕ → ℕ → ℕ
total_by inplace read write = cond inplace read (max read write)

-- number 9, of the total lengths
abbrev pub unpaired_by : ℕ → Board → Board → ℕ → ℕ → Bool
unpaired_by k g a gate_total antenna_total = unequal (width_bits g.width) k || unfit_by g a gate_total antenna_total
