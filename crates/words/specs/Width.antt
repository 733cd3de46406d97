-- The widths 8, 16 and 32 (document 01, Words): the bits of an element of each.
-- Assumes nothing.
use Rattle.std.specs.Prelude.{ℕ}
use Rattle.words.specs.declared.width.Width.{Width}
use Rattle.words.specs.declared.width.Width.TheVariants.{U8, U16, U32}

abbrev pub width_bits : Width → ℕ
width_bits U8 = 8
width_bits U16 = 16
width_bits U32 = 32
