-- Some bits of a word: n of them from position p up.
-- Assumes nothing.
use Rattle.std.specs.Prelude.{ℕ, ◌+◌, ◌*◌, ◌/◌, ◌%◌, ◌^◌}

pub record Bits : Type 0 where
  pub position : ℕ
  pub width : ℕ

abbrev pub bits : ℕ → ℕ → Bits
bits p n = record { position = p; width = n }

-- the value of these bits
abbrev pub get_bits : ℕ → ℕ → ℕ → ℕ
get_bits p n w = w / 2 ^ p % 2 ^ n

-- the word with v, masked to n bits, in them, and every other bit as it was
abbrev pub set_bits : ℕ → ℕ → ℕ → ℕ → ℕ
set_bits p n v w = (w / 2 ^ p / 2 ^ n * 2 ^ n + v % 2 ^ n) * 2 ^ p + w % 2 ^ p
