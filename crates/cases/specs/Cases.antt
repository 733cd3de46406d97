-- The P cases of document 01, a row each, in its order: four of words, seven of commands, two of clocks, one of `buslog`. What the
-- definitions give stands beside what 01 says. A row is two lists of numbers: words, or a result number and its word, or bytes.
-- Assumes nothing.
use Rattle.std.specs.Prelude.{ℕ, List, [], ◌∷◌, ◌++◌, ◌≡◌, codes}
use Rattle.words.specs.declared.order.BitOrder.TheVariants.{Msb, Lsb}
use Rattle.words.specs.declared.mode.Mode.{Mode}
use Rattle.words.specs.declared.mode.Pcs.TheVariants.{Pcs2}
use Rattle.words.specs.declared.mode.Phase.TheVariants.{CaptureOnSecondTransition}
use Rattle.words.specs.declared.mode.Polarity.TheVariants.{IdleHigh}
use Rattle.lines.specs.Buslog.{buslog}
use Rattle.words.specs.Answer.{Answer}
use Rattle.words.specs.Buffer.{pack_words}
use Rattle.words.specs.Clock.{ClockAnswer, clocked, clock_word}
use Rattle.words.specs.Command.{framed, commanded, bus_word}

pub record Case : Type 0 where
  pub gives : List ℕ
  pub says : List ℕ

abbrev row : List ℕ → List ℕ → Case
row gives says = record { gives = gives; says = says }

-- a refused frame has its number; an accepted one 0 and its word
abbrev number : Answer → List ℕ
number a = a.number ∷ []

abbrev command : Answer → List ℕ
command a = a.number ∷ a.value ∷ []

abbrev clock : ClockAnswer → List ℕ
clock a = a.number ∷ clock_word a.configs ∷ []

abbrev mode3 : Mode
mode3 = record { polarity = IdleHigh; phase = CaptureOnSecondTransition }

abbrev pub cases : List Case
cases =
    row (pack_words Msb 8 5 (0x11 ∷ 0x22 ∷ 0x33 ∷ 0x44 ∷ 0x55 ∷ [])) (0x11223344 ∷ 0x00000055 ∷ [])
    ∷ row (pack_words Lsb 8 5 (0x11 ∷ 0x22 ∷ 0x33 ∷ 0x44 ∷ 0x55 ∷ [])) (0x44332211 ∷ 0x00000055 ∷ [])
    ∷ row (pack_words Msb 8 3 (0x11 ∷ 0x22 ∷ 0x33 ∷ [])) (0x00112233 ∷ [])
    ∷ row (pack_words Lsb 16 2 (0x1122 ∷ 0x3344 ∷ [])) (0x33441122 ∷ [])
    ∷ row (number (framed 7)) (1 ∷ [])
    ∷ row (number (framed 33)) (1 ∷ [])
    ∷ row (number (framed 4065)) (1 ∷ [])
    ∷ row (number (framed 4097)) (1 ∷ [])
    ∷ row (command (framed 8)) (0 ∷ 0x00000007 ∷ [])
    ∷ row (command (framed 4096)) (0 ∷ 0x00000FFF ∷ [])
    ∷ row (command (commanded (bus_word Lsb mode3 Pcs2) 40)) (0 ∷ 0xC2800027 ∷ [])
    ∷ row (clock (clocked 60_000_000 4_000_000)) (0 ∷ 0x0707070E ∷ [])
    ∷ row (clock (clocked 60_000_000 100_000)) (0 ∷ 0x7F7F7FFE ∷ [])
    ∷ row (buslog (codes "8 M 20\nA5\n1\n0 404 0 0 404 0 0 404 10000 5A\n"))
    (codes "R 14 00000000\nR 04 00000404\nR 5C 00000000\nW 60 00000007\n"
    ++ (codes "R 14 00000000\nR 04 00000404\nR 5C 00000000\nW 64 000000A5\n"
    ++ codes "R 14 00000000\nR 04 00000404\nR 5C 00010000\nR 74 0000005A\n5A\n0 12 10\n"))
    ∷ []

-- in every row the definitions give what 01 says
abbrev pub Hold : List Case → Type 0
Hold [] = Unit {0}
Hold (c ∷ cs) = (c.gives ≡ c.says) × Hold cs
