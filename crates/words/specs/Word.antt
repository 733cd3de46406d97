-- One FIFO word of elements of k bits each (document 01, Words). MSB order puts the first element highest among those present; LSB puts it
-- lowest.
-- Assumes nothing.
use Rattle.std.specs.Prelude.{ℕ, zero, suc, ◌+◌, ◌*◌, ◌/◌, ◌%◌, ◌^◌, cond, List, [], ◌∷◌, leb, eqb, length}
use Rattle.words.specs.declared.order.BitOrder.{BitOrder}
use Rattle.words.specs.declared.order.BitOrder.TheVariants.{Msb, Lsb}
use Rattle.words.specs.Answer.{Answer, ok, refused, too_many_number}

-- a FIFO word holds 4, 2 or 1 elements
abbrev pub per_word : ℕ → ℕ
per_word k = 32 / k

-- the word of the element x and, after it, the n elements of the word r
abbrev pub joined : BitOrder → ℕ → ℕ → ℕ → ℕ → ℕ
joined Msb k n x r = x * 2 ^ (k * n) + r
joined Lsb k n x r = r * 2 ^ k + x

-- the first of the 1 + n elements of the word w
abbrev pub first : BitOrder → ℕ → ℕ → ℕ → ℕ
first Msb k n w = w / 2 ^ (k * n) % 2 ^ k
first Lsb k n w = w % 2 ^ k

-- the word of the n elements after the first
abbrev pub rest : BitOrder → ℕ → ℕ → ℕ → ℕ
rest Msb k n w = w % 2 ^ (k * n)
rest Lsb k n w = w / 2 ^ k

-- elements to a word; a short word has zeros above
abbrev pub pack : BitOrder → ℕ → List ℕ → ℕ
pack o k [] = 0
pack o k (x ∷ xs) = joined o k (length xs) x (pack o k xs)

-- a word to c elements, the inverse: its first element and the rest
abbrev pub unpack : BitOrder → ℕ → ℕ → ℕ → List ℕ
unpack o k zero w = []
unpack o k (suc c) w = first o k c w ∷ unpack o k c (rest o k c w)

-- elements over the front of a buffer; those past the buffer's end are dropped
abbrev pub laid : List ℕ → List ℕ → List ℕ
laid [] bs = bs
laid (x ∷ xs) [] = []
laid (x ∷ xs) (b ∷ bs) = x ∷ laid xs bs

-- THE WORD ENTRIES: 8 for more than 4, 2, 1 elements for widths 8, 16, 32, all as found
abbrev pub packed : BitOrder → ℕ → List ℕ → Answer
packed o k xs = cond (leb (length xs) (per_word k)) (ok (pack o k xs)) (refused too_many_number)

abbrev pub unpacked_number : ℕ → ℕ → ℕ
unpacked_number k c = cond (leb c (per_word k)) 0 too_many_number

-- width 32 ignores, once past number 8, c: it always gives one element
abbrev pub unpack_count : ℕ → ℕ → ℕ
unpack_count k c = cond (eqb k 32) 1 c

-- the buffer after the unpacking of c elements of the word w
abbrev pub unpacked : BitOrder → ℕ → ℕ → ℕ → List ℕ → List ℕ
unpacked o k c w bs = cond (leb c (per_word k)) (laid (unpack o k (unpack_count k c) w) bs) bs

-- the other order: what stands first in one stands last in the other (only private contracts cite it)
abbrev pub reversed : BitOrder → BitOrder
reversed Msb = Lsb
reversed Lsb = Msb
