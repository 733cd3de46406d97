-- The transmit queue as a port has it: commands, and words behind them.
-- Assumes nothing.
use Rattle.std.proofs.Common.{ℕ, zero, suc, ◌+◌, List, [], ◌∷◌, ◌++◌, ◌≡◌, refl, ap, length, arith}
use Rattle.agreement.specs.End.{Item, Command, Word, words_in, past_word, behind}
use Rattle.bus.specs.View.{queued}

pub length_queued : (n : ℕ) (words : List ℕ) → length (queued n words) ≡ n + length words
length_queued zero [] = refl
length_queued zero (v ∷ words) = omega (arith, length_queued zero words)
length_queued (suc n) words = omega (arith, length_queued n words)

pub words_queued : (n : ℕ) (words : List ℕ) → words_in (queued n words) ≡ words
words_queued zero [] = refl
words_queued zero (v ∷ words) = ap (λ (l : List ℕ). v ∷ l) (words_queued zero words)
words_queued (suc n) words = words_queued n words

-- the first word leaves, and the commands with it
pub past_queued : (n : ℕ) (words : List ℕ) → past_word (queued n words) ≡ queued 0 (behind words)
past_queued zero [] = refl
past_queued zero (v ∷ words) = refl
past_queued (suc n) words = past_queued n words

-- a word more
pub queued_word : (n : ℕ) (words : List ℕ) (v : ℕ) → queued n words ++ Word v ∷ [] ≡ queued n (words ++ v ∷ [])
queued_word zero [] v = refl
queued_word zero (u ∷ words) v = ap (λ (l : List Item). Word u ∷ l) (queued_word zero words v)
queued_word (suc n) words v = ap (λ (l : List Item). Command ∷ l) (queued_word n words v)

-- a command more, where no word is queued
pub queued_command : (n : ℕ) (words : List ℕ) → words ≡ [] → queued n words ++ Command ∷ [] ≡ queued (suc n) words
queued_command zero [] h = refl
queued_command zero (v ∷ words) h = absurd (omega (arith, ap length h))
queued_command (suc n) words h = ap (λ (l : List Item). Command ∷ l) (queued_command n words h)

-- nothing is queued: no word is
pub nothing_queued : (n : ℕ) (words : List ℕ) → queued n words ≡ [] → words ≡ []
nothing_queued zero [] h = refl
nothing_queued zero (v ∷ words) h = absurd (omega (arith, ap length h))
nothing_queued (suc n) words h = absurd (omega (arith, ap length h))
