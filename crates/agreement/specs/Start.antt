-- What the two boards start with (document 01, The bus), and the pair's refusal, number 9.
-- Assumes nothing.
use Rattle.std.specs.Prelude.{ℕ, ◌*◌, Bool, cond, not, ◌||◌, List, eqb, ltb}
use Rattle.words.specs.Buffer.{word_count}
use Rattle.words.specs.Command.{frame_accepted, lsbf_of}
use Rattle.words.specs.Width.{width_bits}
use Rattle.machine.specs.declared.transfer.Transfer.{Transfer}
use Rattle.transfers.specs.Transfers.{Plan, begun, separate_plan, in_place_plan}
use Rattle.agreement.specs.declared.board.Board.{Board}

-- a board with its buffers at fresh; in place, the read buffer is both
pub record Start : Type 0 where
  pub board : Board
  pub read : List ℕ
  pub write : List ℕ

-- the bits of an element
abbrev pub element_bits : Start → ℕ
element_bits s = width_bits s.board.width

-- its transfer's words and total length: a separate or an in-place exchange
abbrev pub plan : Start → Plan
plan s =
    cond s.board.inplace (in_place_plan (element_bits s) s.board.driver s.read)
    (separate_plan (element_bits s) s.board.driver s.read s.write)

-- what an end started with
abbrev pub started : Start → List ℕ
started s = cond s.board.inplace s.read s.write

-- total length: the count of elements of the end's longer buffer
abbrev pub total : Start → ℕ
total s = (plan s).total

-- the FIFO words each way
abbrev pub frame_words : Start → ℕ
frame_words s = word_count (element_bits s) (total s)

-- the frame size is accepted; an empty frame counts as accepted
abbrev pub accepted : Start → Bool
accepted s = eqb (total s) 0 || frame_accepted (element_bits s * total s)

-- two numbers differ
abbrev pub unequal : ℕ → ℕ → Bool
unequal m n = not (eqb m n)

-- number 9, of the total lengths: "a FIFO exponent over 4, or unequal width, order or total length"
abbrev pub unfit_by : Board → Board → ℕ → ℕ → Bool
unfit_by g a gate_total antenna_total =
    ltb 4 g.exponent
    || (ltb 4 a.exponent
    || (unequal (width_bits g.width) (width_bits a.width)
    || (unequal (lsbf_of g.driver.order) (lsbf_of a.driver.order)
    || unequal gate_total antenna_total)))

-- number 9
abbrev pub unfit : Start → Start → Bool
unfit g a = unfit_by g.board a.board (total g) (total a)

-- what an end goes by: its FIFO exponent, and the word that it sends at a place, by the words received so far
pub record Job : Type 0 where
  pub exponent : ℕ
  pub words : List ℕ → ℕ → ℕ

-- of a board: FIFOs of its exponent, and its plan's words
abbrev pub job : Start → Job
job s = record { exponent = s.board.exponent; words = (plan s).words }

-- its transfer: empty test, frame size, or the start
abbrev pub transfer_of : Start → Transfer
transfer_of s = begun (element_bits s) s.board.driver (plan s)
