-- The FIFO words of a transfer: a write buffer as words, and received words as a read buffer (document 01, Words and transfers). Elements
-- have k bits each; `total` is the transfer's total length in elements.
-- Assumes nothing.
use Rattle.std.specs.Prelude.{ℕ, zero, suc, ◌+◌, ◌-◌, ◌*◌, ◌/◌, ◌%◌, ◌^◌, min, List, [], ◌∷◌, ◌++◌, drop}
use Rattle.words.specs.declared.order.BitOrder.{BitOrder}
use Rattle.words.specs.Word.{per_word, pack, unpack}

-- `DUMMY` of the width: all ones
abbrev pub dummy : ℕ → ℕ
dummy k = 2 ^ k - 1

-- the words that n elements take
abbrev pub word_count : ℕ → ℕ → ℕ
word_count k n = (n + (per_word k - 1)) / per_word k

-- c counts the elements of the transfer's total length in word i
abbrev pub count_at : ℕ → ℕ → ℕ → ℕ
count_at k total i = min (per_word k) (total - per_word k * i)

-- the first n elements of xs, and d for each that is missing
abbrev pub filled : ℕ → ℕ → List ℕ → List ℕ
filled d zero xs = []
filled d (suc n) [] = d ∷ filled d n []
filled d (suc n) (x ∷ xs) = x ∷ filled d n xs

-- word i of a transfer that sends xs; missing write elements are dummies
abbrev pub word_at : BitOrder → ℕ → ℕ → List ℕ → ℕ → ℕ
word_at o k total xs i = pack o k (filled (dummy k) (count_at k total i) (drop (per_word k * i) xs))

-- f 0, f 1, .. f (n - 1)
abbrev pub tabulate : ℕ → (ℕ → ℕ) → List ℕ
tabulate zero f = []
tabulate (suc n) f = f 0 ∷ tabulate n (λ i. f (suc i))

-- all words of a transfer that sends xs
abbrev pub pack_words : BitOrder → ℕ → ℕ → List ℕ → List ℕ
pack_words o k total xs = tabulate (word_count k total) (word_at o k total xs)

-- the elements of received words, c a word; a word past the total has none
abbrev pub unpack_words : BitOrder → ℕ → ℕ → List ℕ → List ℕ
unpack_words o k total [] = []
unpack_words o k total (w ∷ ws) = unpack o k (min (per_word k) total) w ++ unpack_words o k (total - per_word k) ws

-- word i with the places above its c elements zero: what was unpacked, packed again
abbrev pub cut_word : ℕ → ℕ → ℕ → ℕ → ℕ
cut_word k total i w = w % 2 ^ (k * count_at k total i)
