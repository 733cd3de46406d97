-- The states of both ends, word by word, and what a trial leaves for a host.
-- Assumes nothing.
use Prim.Native.Nat.{ℕ, zero, suc, ◌+◌, ◌-◌, ◌/◌, ◌<◌, ◌≤◌, min}
use mathlib.Core.List.{List, [], ◌∷◌, ◌++◌}
use mathlib.Core.Path.{◌≡◌, refl, sym, ap, ap₂, subst, ◌∙◌}
use native.Mathlib.Omega.{arith}
use Rattle.std.specs.Fn.{Called, Mut}
use Rattle.std.specs.Array.{IsFromFnResult, IsFromFnResultFrom}
use lib.ListN.{length, get_or, take, drop, length-append, get_or-append}
use lib.Seq.{get_or-append-add}
use Rattle.words.specs.declared.width.Width.{Width}
use Rattle.words.specs.Buffer.{filled}
use Rattle.words.specs.Width.{width_bits}
use Rattle.words.specs.Word.{laid}
use Rattle.words.proofs.BufferLaws.{length_filled, laid_nothing}
use Rattle.agreement.specs.declared.board.Board.{Board}
use Rattle.agreement.specs.Agreement.{Seen}
use Rattle.bus.specs.declared.trial.Outcome.{Outcome}
use Rattle.bus.specs.Trial.{TrialLeft, trial_of, Tried, trial_number}
use Rattle.agreement.specs.End.{words_in}
use Rattle.bus.specs.View.{queued, state_of}
use Rattle.c_api.specs.HostBus.{head_words, commands_in, state_words, pair_words, laid_from, state_left, board_of, host_trial, of_trial, trial_by}

-- LISTS AFTER LISTS

front : (xs ys : List ℕ) (n i : ℕ) → length xs ≡ n → i < n → get_or (xs ++ ys) i 0 ≡ get_or xs i 0
front xs ys n i e h = get_or-append xs ys 0 i (omega (arith, e))

behind : (xs ys : List ℕ) (n i : ℕ) → length xs ≡ n → n ≤ i → get_or (xs ++ ys) i 0 ≡ get_or ys (i - n) 0
behind xs ys n i e h =
    let q : i ≡ length xs + (i - n) = omega (arith, e) in ap (λ (k : ℕ). get_or (xs ++ ys) k 0) q ∙ get_or-append-add xs ys (i - n) 0

-- THE WORDS OF A STATE
module _ (x : Seen) where
  abbrev head : List ℕ
  head = head_words x.transfer x.flush x.wire

  abbrev sends : List ℕ
  sends = filled 0 16 (words_in x.wire.transmit)

  abbrev receives : List ℕ
  receives = filled 0 16 x.wire.receive

  abbrev rest : List ℕ
  rest = filled 0 30 x.registers

  pub length_state : length (state_words x) ≡ 68
  length_state =
      length-append head (sends ++ (receives ++ rest))
      ∙ ap (λ (n : ℕ). 6 + n)
      (length-append sends (receives ++ rest)
      ∙ ap₂ ◌+◌ (length_filled 0 16 (words_in x.wire.transmit))
      (length-append receives rest ∙ ap₂ ◌+◌ (length_filled 0 16 x.wire.receive) (length_filled 0 30 x.registers)))

-- what a port queues
pub commands_queued : (n : ℕ) (words : List ℕ) → commands_in (queued n words) ≡ n
commands_queued zero [] = refl
commands_queued zero (v ∷ words) = commands_queued zero words
commands_queued (suc n) words = ap suc (commands_queued n words)

-- BOTH STATES
module _ (g a : Seen) where
  abbrev last : List ℕ
  last = commands_in g.wire.transmit ∷ commands_in a.wire.transmit ∷ []

  pub word_gate : (i : ℕ) → i < 68 → get_or (state_words g) i 0 ≡ get_or (pair_words g a) i 0
  word_gate i h = sym (front (state_words g) (state_words a ++ last) 68 i (length_state g) h)

  from_antenna : (i : ℕ) → 68 ≤ i → get_or (pair_words g a) i 0 ≡ get_or (state_words a ++ last) (i - 68) 0
  from_antenna i h = behind (state_words g) (state_words a ++ last) 68 i (length_state g) h

  pub word_antenna : (i : ℕ) → 68 ≤ i → i < 136 → get_or (state_words a) (i - 68) 0 ≡ get_or (pair_words g a) i 0
  word_antenna i l h = sym (from_antenna i l ∙ front (state_words a) last 68 (i - 68) (length_state a) (omega arith))

  from_last : (i k : ℕ) → i ≡ 136 + k → get_or last k 0 ≡ get_or (pair_words g a) i 0
  from_last i k e =
      let q : i - 68 - 68 ≡ k = omega (arith, e) in
      sym
      (from_antenna i (omega (arith, e))
      ∙ behind (state_words a) last 68 (i - 68) (length_state a) (omega (arith, e))
      ∙ ap (λ (n : ℕ). get_or last n 0) q)

  pub word_gate_commands : (i : ℕ) → 136 ≤ i → i < 137 → commands_in g.wire.transmit ≡ get_or (pair_words g a) i 0
  word_gate_commands i l h = from_last i 0 (omega arith)

  pub word_antenna_commands : (i : ℕ) → 137 ≤ i → i < 138 → commands_in a.wire.transmit ≡ get_or (pair_words g a) i 0
  word_antenna_commands i l h = from_last i 1 (omega arith)

  pub length_both : length (pair_words g a) ≡ 138
  length_both =
      length-append (state_words g) (state_words a ++ last)
      ∙ ap₂ ◌+◌ (length_state g) (length-append (state_words a) last ∙ ap (λ (n : ℕ). n + 2) (length_state a))

-- places that have the words of a list, 0 past them
pub filled_by : (n : ℕ) (ys xs : List ℕ) → length ys ≡ n → ((i : ℕ) → i < n → get_or ys i 0 ≡ get_or xs i 0) → ys ≡ filled 0 n xs
filled_by zero [] xs e h = refl
filled_by zero (y ∷ ys) xs e h = absurd (omega arith)
filled_by (suc n) [] xs e h = absurd (omega arith)
filled_by (suc n) (y ∷ ys) [] e h =
    ap₂ (λ (v : ℕ) (l : List ℕ). v ∷ l) (h 0 (omega arith)) (filled_by n ys [] (omega arith) (λ i l. h (suc i) (omega arith)))
filled_by (suc n) (y ∷ ys) (x ∷ xs) e h =
    ap₂ (λ (v : ℕ) (l : List ℕ). v ∷ l) (h 0 (omega arith)) (filled_by n ys xs (omega arith) (λ i l. h (suc i) (omega arith)))

-- an array made by a function, of which each call gives the word of its number
module _ {F : Type 0} (g : Mut F (ℕ × Unit {0}) ℕ) (Same : F → Type 0) (xs : List ℕ)
    (turn : (p q : F) (i r : ℕ) → Same p → Called g p (i, tt) r q → (r ≡ get_or xs i 0) × Same q) where
  made_from : (n i : ℕ) (p : F) (ys : List ℕ) → Same p → IsFromFnResultFrom g p ys i n → (k j : ℕ) → j ≡ i + k → k < n
      → get_or ys j 0 ≡ get_or xs j 0
  made_from zero i p ys s m k j e h = absurd (omega arith)
  made_from (suc n) i p ys s (q, y, at, called, later) zero j e h =
      let same : i ≡ j = omega arith in
      subst (λ (x : ℕ). get_or ys x 0 ≡ get_or xs x 0) same (at.1 0 ∙ (turn p q i y s called).0)
  made_from (suc n) i p ys s (q, y, at, called, later) (suc k) j e h =
      made_from n (i + 1) q ys (turn p q i y s called).1 later k j (omega arith) (omega arith)

  pub made_of : (n : ℕ) (f : F) (ys : List ℕ) → Same f → IsFromFnResult g f ys n → ys ≡ filled 0 n xs
  made_of n f ys s m = filled_by n ys xs m.long (λ k h. made_from n 0 f ys s m.each k k (omega arith) h)

-- WORDS OVER A BUFFER FROM A PLACE ON

-- at its front, as a copy leaves it
front_laid : (n : ℕ) (xs bs : List ℕ) → n ≡ min (length xs) (length bs) → take n xs ++ drop n bs ≡ laid xs bs
front_laid zero [] bs e = refl
front_laid zero (x ∷ xs) [] e = refl
front_laid zero (x ∷ xs) (b ∷ bs) e = absurd (omega arith)
front_laid (suc n) [] bs e = absurd (omega arith)
front_laid (suc n) (x ∷ xs) [] e = absurd (omega arith)
front_laid (suc n) (x ∷ xs) (b ∷ bs) e = ap (λ (l : List ℕ). x ∷ l) (front_laid n xs bs (omega arith))

pub copied : (from n k : ℕ) (xs bs : List ℕ) → k ≡ n → n ≡ min (length xs) (length bs - from) → from ≤ length bs
    → take from bs ++ (take n xs ++ drop k (drop from bs)) ≡ laid_from from xs bs
copied zero n k xs bs ek e h = rw ek (front_laid n xs bs (omega (arith, e)))
copied (suc from) n k xs [] ek e h = absurd (omega arith)
copied (suc from) n k xs (b ∷ bs) ek e h =
    ap (λ (l : List ℕ). b ∷ l) (copied from n k xs bs ek (omega (arith, e)) (omega arith))

-- past its end
pub past : (from : ℕ) (xs bs : List ℕ) → length bs ≤ from → bs ≡ laid_from from xs bs
past zero xs [] h = sym (laid_nothing xs)
past zero xs (b ∷ bs) h = absurd (omega arith)
past (suc from) xs [] h = refl
past (suc from) xs (b ∷ bs) h = ap (λ (l : List ℕ). b ∷ l) (past from xs bs (omega arith))

-- behind words that were laid
behind_laid : (at : ℕ) (xs ys bs : List ℕ) → at ≡ length xs → laid_from at ys (laid xs bs) ≡ laid (xs ++ ys) bs
behind_laid zero [] ys bs e = refl
behind_laid zero (x ∷ xs) ys bs e = absurd (omega arith)
behind_laid (suc at) [] ys bs e = absurd (omega arith)
behind_laid (suc at) (x ∷ xs) ys [] e = refl
behind_laid (suc at) (x ∷ xs) ys (b ∷ bs) e = ap (λ (l : List ℕ). x ∷ l) (behind_laid at xs ys bs (omega arith))

pub laid_behind : (from at : ℕ) (xs ys bs : List ℕ) → at ≡ from + length xs
    → laid_from at ys (laid_from from xs bs) ≡ laid_from from (xs ++ ys) bs
laid_behind zero at xs ys bs e = behind_laid at xs ys bs (omega arith)
laid_behind (suc from) zero xs ys bs e = absurd (omega arith)
laid_behind (suc from) (suc at) xs ys [] e = refl
laid_behind (suc from) (suc at) xs ys (b ∷ bs) e = ap (λ (l : List ℕ). b ∷ l) (laid_behind from at xs ys bs (omega arith))

-- an end's four parts
pub laid_end : (from : ℕ) (x : Seen) {ts : List ℕ} (bs : List ℕ) → ts ≡ words_in x.wire.transmit
    → laid_from (from + 38) (rest x) (laid_from (from + 22) (receives x) (laid_from (from + 6) (filled 0 16 ts) (laid_from from (head x) bs)))
    ≡ laid_from from (state_words x) bs
laid_end from x bs t =
    let sent = length_filled 0 16 (words_in x.wire.transmit) in
    let received = length_filled 0 16 x.wire.receive in
    rw t
    (laid_behind (from + 22) (from + 38) (receives x) (rest x) _ (omega (arith, received))
    ∙ laid_behind (from + 6) (from + 22) (sends x) (receives x ++ rest x) _ (omega (arith, sent))
    ∙ laid_behind from (from + 6) (head x) (sends x ++ (receives x ++ rest x)) bs refl)

-- both ends, and the commands
pub laid_both : (g a : Seen) (bs : List ℕ)
    → laid_from 136 (last g a) (laid_from 68 (state_words a) (laid_from 0 (state_words g) bs)) ≡ laid (pair_words g a) bs
laid_both g a bs =
    laid_behind 68 136 (state_words a) (last g a) _ (omega (arith, length_state a))
    ∙ laid_behind 0 68 (state_words g) (state_words a ++ last g a) bs (omega (arith, length_state g))

-- WHAT GOES BACK, of boards made of numbers
pub host_trial_lem : (w : Width) (o : Outcome) (gate_left antenna_left : List ℕ) (g a : Board)
    (gate_driver antenna_driver inplace gate_exponent antenna_exponent : ℕ)
    (gate_read gate_write antenna_read antenna_write events state st : List ℕ) (n : ℕ)
    → g ≡ board_of w gate_driver inplace gate_exponent → a ≡ board_of w antenna_driver (inplace / 2) antenna_exponent
    → Tried (width_bits w) g a gate_read gate_write antenna_read antenna_write events o gate_left antenna_left
    → n ≡ trial_number o.result → st ≡ state_left (trial_number o.result) (state_of o.gate) (state_of o.antenna) state
    → host_trial n gate_left antenna_left st
    ≡ trial_by w gate_driver antenna_driver inplace gate_exponent antenna_exponent gate_read gate_write antenna_read antenna_write events state
host_trial_lem w o gate_left antenna_left g a gate_driver antenna_driver inplace gate_exponent antenna_exponent
    gate_read gate_write antenna_read antenna_write events state st n p q t en es =
    ap₂ (λ (m : ℕ) (l : List ℕ). host_trial m gate_left antenna_left l) en es
    ∙ ap (λ (y : TrialLeft). of_trial y state)
    (t.same ∙ ap₂ (λ (y z : Board). trial_of (width_bits w) y z gate_read gate_write antenna_read antenna_write events) p q)
