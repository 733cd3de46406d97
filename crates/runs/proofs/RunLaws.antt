-- The laws of a run, for every machine: a run of a + b accesses, a machine that is halted, the count of accesses, and the log.
-- Assumes nothing.
use Prim.Native.Nat.{ℕ, zero, suc, ◌+◌, ◌*◌, ◌<◌, ◌≤◌}
use mathlib.Core.Bool.{Bool, true, false, cond, ◌||◌}
use mathlib.Core.List.{List, [], ◌∷◌, ◌++◌, append_assoc}
use mathlib.Core.Path.{◌≡◌, refl, sym, ap, ap₂, ◌∙◌}
use native.Mathlib.Nat.{zero-add, suc-add}
use native.Mathlib.Numerals.{add-one, add-two}
use native.Mathlib.Omega.{arith}
use lib.Dec.{ltb}
use lib.ListN.{length, get_or, set, drop, length-append}
use borrow.Author.Tests.{ltb-false}
use lib.Seq.{drop-cons, set_at, append_snoc}
use Rattle.sequences.specs.declared.access.Access.{Access}
use Rattle.sequences.specs.declared.access.Access.TheVariants.{Read, Write, Send, Receive, Done}
use Rattle.runs.specs.Run.{Logged, flat, code_of, value_of, uses_of, halted, times, State, after_access, step, run, limits, log_over, put}

-- STEPS

module _ {ℓ} {A : Type ℓ} (f : A → A) where
  -- a + b steps are a steps, and then b
  times_add : (a b : ℕ) (s : A) → times f (a + b) s ≡ times f b (times f a s)
  unfolding times
  times_add zero b s = rw zero-add
  times_add (suc a) b s = rw suc-add (times_add a b (f s))

  -- n + 1 steps are n steps, and one after them
  times_last : (n : ℕ) (s : A) → times f (suc n) s ≡ f (times f n s)
  unfolding times
  times_last zero s = refl
  times_last (suc n) s = times_last n (f s)

  -- where a step changes nothing, no number of steps does
  times_still : (n : ℕ) (s : A) → f s ≡ s → times f n s ≡ s
  unfolding times
  times_still zero s e = refl
  times_still (suc n) s e = rw e (times_still n s e)

-- an access uses at most one answer
pub uses_one : (a : Access) → uses_of a ≤ 1
uses_one (Read r) = omega arith
uses_one (Write r w) = omega arith
uses_one (Send i) = omega arith
uses_one (Receive i) = omega arith
uses_one (Done e) = omega arith

module _ {M : Type 0} (next : M → Access) (resume : M → ℕ → M) (words : List ℕ → ℕ → ℕ) (script : List ℕ) where
  -- A RUN OF a + b ACCESSES is a run of a and then of b
  pub run_add : (a b : ℕ) (s : State M)
      → run next resume words script (a + b) s ≡ run next resume words script b (run next resume words script a s)
  run_add a b s = times_add (step next resume words script) a b s

  -- A HALTED MACHINE STAYS
  pub run_halted : (n : ℕ) (s : State M) → halted (next s.machine) s.used (length script) ≡ true
      → run next resume words script n s ≡ s
  unfolding step
  run_halted n s e = times_still (step next resume words script) n s (rw e)

  -- one access more
  pub run_last : (n : ℕ) (s : State M)
      → run next resume words script (n + 1) s ≡ step next resume words script (run next resume words script n s)
  run_last n s = ap (λ (m : ℕ). times (step next resume words script) m s) (add-one n) ∙ times_last (step next resume words script) n s

  pub step_log : (s : State M) → length (step next resume words script s).log ≤ length s.log + 1
  unfolding step after_access
  step_log s = by_test (halted (next s.machine) s.used (length script))
    where
      by_test : (t : Bool) → length (cond t s (after_access next resume words script (next s.machine) s)).log ≤ length s.log + 1
      by_test true = omega arith
      by_test false =
          omega (
            arith,
            length-append s.log
                (record
                { at = code_of (next s.machine); value = value_of (words s.received) (next s.machine) (get_or script s.used 0) } ∷ []),
          )

  -- NEVER MORE ACCESSES THAN THE BUDGET
  pub run_log : (n : ℕ) (s : State M) → length (run next resume words script n s).log ≤ length s.log + n
  unfolding times
  run_log zero s = omega arith
  run_log (suc n) s = omega (arith, step_log s, run_log n (step next resume words script s))

  -- NO MORE ANSWERS USED THAN ACCESSES MADE
  step_used : (s : State M) → s.used ≤ length s.log
      → (step next resume words script s).used ≤ length (step next resume words script s).log
  unfolding step after_access
  step_used s h = by_test (halted (next s.machine) s.used (length script))
    where
      by_test : (t : Bool)
          → (cond t s (after_access next resume words script (next s.machine) s)).used
          ≤ length (cond t s (after_access next resume words script (next s.machine) s)).log
      by_test true = h
      by_test false =
          omega (
            arith,
            uses_one (next s.machine),
            length-append s.log
                (record {
                  at = code_of (next s.machine);
                  value = value_of (words s.received) (next s.machine) (get_or script s.used 0);
                } ∷ []),
          )

  pub run_used : (n : ℕ) (s : State M) → s.used ≤ length s.log
      → (run next resume words script n s).used ≤ length (run next resume words script n s).log
  unfolding times
  run_used zero s h = h
  run_used (suc n) s h = run_used n (step next resume words script s) (step_used s h)

-- THE LOG, as a loop writes it: a pair at a time over the old one

length_flat : (l : List Logged) → length (flat l) ≡ 2 * length l
length_flat [] = refl
length_flat (a ∷ l) = omega (arith, length_flat l)

flat_last : (l : List Logged) (a : Logged) → flat (l ++ (a ∷ [])) ≡ flat l ++ (a.at ∷ a.value ∷ [])
flat_last [] a = refl
flat_last (b ∷ l) a = ap (λ (x : List ℕ). b.at ∷ b.value ∷ x) (flat_last l a)

-- two stores at a seam
set_two : (p rest : List ℕ) (x y a b m : ℕ) → length p ≡ m → set (set (p ++ x ∷ y ∷ rest) m a) (m + 1) b ≡ p ++ (a ∷ b ∷ []) ++ rest
set_two p rest x y a b m h =
    ap (λ (l : List ℕ). set l (m + 1) b) (set_at p x (y ∷ rest) a m h ∙ sym (append_snoc p a (y ∷ rest)))
    ∙ set_at (p ++ a ∷ []) y rest b (m + 1) (omega (arith, length-append p (a ∷ [])))
    ∙ simp append_assoc

drop_two : (old : List ℕ) (m : ℕ) → m + 1 < length old → drop m old ≡ get_or old m 0 ∷ get_or old (m + 1) 0 ∷ drop (m + 2) old
drop_two old m h =
    rw (add-one m, add-two m)
    (drop-cons old m 0 (omega arith) ∙ ap (λ (l : List ℕ). get_or old m 0 ∷ l) (drop-cons old (suc m) 0 (omega arith)))

pub log_put : (old : List ℕ) (l : List Logged) (a : Logged) → 2 * length l + 1 < length old
    → put (log_over old l) (length l) a.at a.value ≡ log_over old (l ++ (a ∷ []))
log_put old l a h =
    let m = 2 * length l in
    let e : m + 2 ≡ 2 * length (l ++ (a ∷ [])) = omega (arith, length-append l (a ∷ [])) in
    ap (λ (r : List ℕ). put (flat l ++ r) (length l) a.at a.value) (drop_two old m h)
    ∙ set_two (flat l) (drop (m + 2) old) (get_or old m 0) (get_or old (m + 1) 0) a.at a.value m (length_flat l)
    ∙ ap₂ (λ (x : List ℕ) (k : ℕ). x ++ drop k old) (sym (flat_last l a)) e

-- budget and log where number 5 is not given
pub small_budget : (budget : ℕ) (log : List ℕ) → limits budget log ≡ false → budget ≤ 8000
small_budget budget log e = ltb-false 8000 budget (first (ltb 8000 budget) (ltb (length log) (2 * budget)) e)
  where
    first : (a b : Bool) → (a || b) ≡ false → a ≡ false
    first true b e = cc
    first false b e = refl

pub room : (budget : ℕ) (log : List ℕ) → limits budget log ≡ false → 2 * budget ≤ length log
room budget log e = ltb-false (length log) (2 * budget) (second (ltb 8000 budget) (ltb (length log) (2 * budget)) e)
  where
    second : (a b : Bool) → (a || b) ≡ false → b ≡ false
    second true b e = cc
    second false b e = e
