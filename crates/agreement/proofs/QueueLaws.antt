-- The transmit queue of an end: its words, and the command that stands before them.
-- Assumes nothing.
use Prim.Native.Nat.{ℕ, suc, ◌≤◌}
use mathlib.Core.Bool.{Bool, true, false}
use mathlib.Core.List.{List, [], ◌∷◌, ◌++◌}
use mathlib.Core.Path.{◌≡◌, refl, ap, ◌∙◌}
use native.Mathlib.Omega.{arith}
use lib.ListN.{length}
use Rattle.agreement.specs.End.{Item, Command, Word, words_in, past_word, behind, emptied_if}
use Rattle.agreement.proofs.WordLists.{length_snoc}

-- at most its first place has a command: behind that only words stand
abbrev pub AtFront : List Item → Type 0
AtFront queue = length (words_in (behind queue)) ≡ length (behind queue)

pub words_most : (queue : List Item) → length (words_in queue) ≤ length queue
words_most [] = omega arith
words_most (Command ∷ queue) = omega (arith, words_most queue)
words_most (Word v ∷ queue) = omega (arith, words_most queue)

pub one_command : (queue : List Item) → AtFront queue → length queue ≤ suc (length (words_in queue))
one_command [] h = omega arith
one_command (Command ∷ queue) h = omega (arith, h)
one_command (Word v ∷ queue) h = omega (arith, h)

-- A WORD MORE
pub words_snoc : (queue : List Item) (v : ℕ) → words_in (queue ++ Word v ∷ []) ≡ words_in queue ++ v ∷ []
words_snoc [] v = refl
words_snoc (Command ∷ queue) v = words_snoc queue v
words_snoc (Word u ∷ queue) v = ap (λ (l : List ℕ). u ∷ l) (words_snoc queue v)

pub more_words : (queue : List Item) (v : ℕ) → length (words_in (queue ++ Word v ∷ [])) ≡ suc (length (words_in queue))
more_words queue v = ap length (words_snoc queue v) ∙ length_snoc (words_in queue) v

pub front_snoc : (queue : List Item) (v : ℕ) → AtFront queue → AtFront (queue ++ Word v ∷ [])
front_snoc [] v h = refl
front_snoc (x ∷ queue) v h = omega (arith, h, more_words queue v, length_snoc queue (Word v))

-- A COMMAND, where nothing is queued
pub command_only : (queue : List Item) → length queue ≡ 0 → queue ++ Command ∷ [] ≡ Command ∷ []
command_only [] h = refl
command_only (x ∷ queue) h = absurd (omega arith)

-- A WORD LESS: the commands before it have left, too
pub past_words : (queue : List Item) (v : ℕ) (words : List ℕ) → words_in queue ≡ v ∷ words → words_in (past_word queue) ≡ words
past_words [] v words e = absurd (omega (arith, ap length e))
past_words (Command ∷ queue) v words e = past_words queue v words e
past_words (Word u ∷ queue) v words e = cc

pub past_less : (queue : List Item) → length (past_word queue) ≤ length queue
past_less [] = omega arith
past_less (Command ∷ queue) = omega (arith, past_less queue)
past_less (Word v ∷ queue) = omega arith

-- and no other command stands behind it
pub past_front : (queue : List Item) (v : ℕ) (words : List ℕ) → AtFront queue → words_in queue ≡ v ∷ words
    → length (past_word queue) ≡ length words
past_front [] v words h e = absurd (omega (arith, ap length e))
past_front (Command ∷ []) v words h e = absurd (omega (arith, ap length e))
past_front (Command ∷ Command ∷ queue) v words h e = absurd (omega (arith, h, words_most queue))
past_front (Command ∷ Word u ∷ queue) v words h e = omega (arith, h, ap length e)
past_front (Word u ∷ queue) v words h e = omega (arith, h, ap length e)

pub only_words : (queue : List Item) → length (words_in queue) ≡ length queue → AtFront queue
only_words [] h = refl
only_words (Command ∷ queue) h = absurd (omega (arith, h, words_most queue))
only_words (Word v ∷ queue) h = omega (arith, h)

-- EMPTIED, or not
pub emptied_words : (b : Bool) (queue : List Item) → words_in (emptied_if b queue) ≡ emptied_if b (words_in queue)
emptied_words true queue = refl
emptied_words false queue = refl
