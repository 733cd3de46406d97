-- What the code begins with is what the two boards start with, and boards that are not refused fit.
-- Assumes nothing.
use Rattle.std.proofs.Common.{ℕ, ◌*◌, ◌≤◌, Bool, true, false, cond, ◌||◌, ◌≡◌, refl, eqb, ltb, length, arith}
use Rattle.words.specs.declared.width.Width.{Width}
use Rattle.words.specs.declared.width.Width.TheVariants.{U8, U16, U32}
use Rattle.words.specs.Buffer.{word_count}
use Rattle.words.specs.Command.{lsbf_of, frame_accepted}
use Rattle.words.specs.Width.{width_bits}
use Rattle.transfers.specs.declared.begin.Ways.TheVariants.{Both}
use Rattle.transfers.specs.Transfers.{begun, separate_plan, in_place_plan}
use Rattle.transfers.specs.Begin.{length_plan}
use Rattle.transfers.proofs.TransferLaws.{accepted_words}
use Rattle.agreement.specs.declared.board.Board.{Board}
use Rattle.agreement.specs.Start.{Start, element_bits, total, unequal, unfit_by, transfer_of}
use Rattle.std.proofs.lemmas.Bool.{or_parts}
use Rattle.bus.specs.Begin.{total_by, unpaired_by}
use borrow.Author.Tests.{ltb-false, eqb-true}

pub total_is : (s : Start) → total s ≡ total_by s.board.inplace (length s.read) (length s.write)
total_is s = by_place s.board.inplace
  where
    by_place : (b : Bool)
        → (cond b (in_place_plan (element_bits s) s.board.driver s.read)
        (separate_plan (element_bits s) s.board.driver s.read s.write)).total
        ≡ total_by b (length s.read) (length s.write)
    by_place true = refl
    by_place false = refl

pub begun_is : (s : Start) → transfer_of s ≡ begun (element_bits s) s.board.driver (length_plan (element_bits s) Both (total s))
begun_is s = by_place s.board.inplace
  where
    by_place : (b : Bool)
        → begun (element_bits s) s.board.driver
        (cond b (in_place_plan (element_bits s) s.board.driver s.read)
        (separate_plan (element_bits s) s.board.driver s.read s.write))
        ≡ begun (element_bits s) s.board.driver
        (length_plan (element_bits s) Both
        (cond b (in_place_plan (element_bits s) s.board.driver s.read)
        (separate_plan (element_bits s) s.board.driver s.read s.write)).total)
    by_place true = refl
    by_place false = refl

-- boards that are not refused have FIFOs of at most 16 words
pub small_exponents : (k : ℕ) (g a : Board) (m n : ℕ) → unpaired_by k g a m n ≡ false → (g.exponent ≤ 4) × (a.exponent ≤ 4)
small_exponents k g a m n h =
    let alike =
    unequal (width_bits g.width)
    (width_bits a.width) || (unequal (lsbf_of g.driver.order) (lsbf_of a.driver.order) || unequal m n) in
    let fits = (or_parts (unequal (width_bits g.width) k) (unfit_by g a m n) h).1 in
    let gate = or_parts (ltb 4 g.exponent) (ltb 4 a.exponent || alike) fits in
    (ltb-false 4 g.exponent gate.0, ltb-false 4 a.exponent (or_parts (ltb 4 a.exponent) alike gate.1).0)

-- an accepted frame has at most 128 FIFO words, an empty one none
pub few_words : (w : Width) (n : ℕ) → (eqb n 0 || frame_accepted (width_bits w * n)) ≡ true → word_count (width_bits w) n ≤ 128
few_words w n = by_test (eqb n 0) refl w
  where
    none : (w : Width) → n ≡ 0 → word_count (width_bits w) n ≤ 128
    none U8 e = omega arith
    none U16 e = omega arith
    none U32 e = omega arith

    by_test : (b : Bool) → eqb n 0 ≡ b → (w : Width) → (b || frame_accepted (width_bits w * n)) ≡ true → word_count (width_bits w) n ≤ 128
    by_test true e w h = none w (eqb-true n 0 e)
    by_test false e w h = accepted_words w n h
