-- A run with no limit on accesses: there is one at most, every run with budget enough is it, and where a machine makes only so many writes
-- in a row, the script's length says which budget is enough. Assumes nothing.
use Prim.Native.Nat.{ℕ, zero, suc, ◌+◌, ◌-◌, ◌*◌, ◌<◌, ◌≤◌}
use mathlib.Core.Bool.{Bool, true, false, cond}
use mathlib.Core.List.{List}
use mathlib.Core.Path.{◌≡◌, refl, sym, ap, ◌∙◌}
use native.Mathlib.Nat.{add-zero}
use native.Mathlib.Omega.{arith}
use lib.ListN.{length}
use borrow.Author.Tests.{leb-false}
use Rattle.sequences.specs.declared.access.Access.{Access}
use Rattle.sequences.specs.declared.access.Access.TheVariants.{Read, Write, Send, Receive, Done}
use Rattle.runs.specs.Run.{State, halted, ended, uses_of, times, after_access, step, run}
use Rattle.runs.specs.Unlimited.{Unlimited}
use Rattle.runs.proofs.RunLaws.{run_add, run_halted}

-- a read less is due, whatever writes follow it
one_read : (c d p q : ℕ) → q ≤ c → (c + 1) * d + q < (c + 1) * suc d + p
one_read c d p q h = omega arith

module _ {M : Type 0} (next : M → Access) (resume : M → ℕ → M) (words : List ℕ → ℕ → ℕ) (script : List ℕ) where
  -- A BUDGET THAT IS ENOUGH gives the unlimited run
  pub unlimited_run : (s u : State M) (h : Unlimited next resume words script s u) (n : ℕ) → h.accesses ≤ n
      → run next resume words script n s ≡ u
  unlimited_run s u h n l =
      let more = n - h.accesses in
      ap (λ (m : ℕ). run next resume words script m s) (let x : n ≡ h.accesses + (n - h.accesses) = omega arith in x)
      ∙ run_add next resume words script h.accesses more s
      ∙ ap (run next resume words script more) h.reached
      ∙ run_halted next resume words script more u h.over

  -- THERE IS ONLY ONE
  pub unlimited_one : (s u v : State M) → Unlimited next resume words script s u → Unlimited next resume words script s v → u ≡ v
  unlimited_one s u v h k =
      let n = h.accesses + k.accesses in
      sym (unlimited_run s u h n (omega arith)) ∙ unlimited_run s v k n (omega arith)

  abbrev halts : State M → Bool
  halts s = halted (next s.machine) s.used (length script)

  abbrev after : State M → State M
  after s = after_access next resume words script (next s.machine) s

  -- the machine makes at most c writes in a row: `pending` of them are due
  module _ (pending : M → ℕ) (c : ℕ) (most : (m : M) → pending m ≤ c)
      (fewer : (m : M) → ended (next m) ≡ false → uses_of (next m) ≡ 0 → pending (resume m 0) < pending m) where
    -- accesses that are due at the most
    abbrev due : State M → ℕ
    due s = (c + 1) * (length script - s.used) + pending s.machine

    after_read : (s : State M) (m : M) → s.used < length script → (c + 1) * (length script - (s.used + 1)) + pending m < due s
    after_read s m h =
        let e : length script - s.used ≡ suc (length script - (s.used + 1)) = omega arith in
        rw e (one_read c (length script - (s.used + 1)) (pending s.machine) (pending m) (most m))

    after_write : (s : State M) → pending (resume s.machine 0) < pending s.machine
        → (c + 1) * (length script - (s.used + 0)) + pending (resume s.machine 0) < due s
    after_write s h = rw add-zero (omega arith)

    due_moved : (a : Access) (s : State M) → next s.machine ≡ a → halted a s.used (length script) ≡ false
        → due (after_access next resume words script a s) < due s
    unfolding after_access
    due_moved (Read g) s e h = after_read s _ (leb-false (length script) s.used h)
    due_moved (Write g v) s e h = after_write s (fewer s.machine (ap ended e) (ap uses_of e))
    due_moved (Send i) s e h = after_write s (fewer s.machine (ap ended e) (ap uses_of e))
    due_moved (Receive i) s e h = after_read s _ (leb-false (length script) s.used h)
    due_moved (Done x) s e h = absurd (let z : ◌≡◌ {A = ℕ} 0 1 = cc in omega arith)

    -- AFTER SO MANY ACCESSES it has halted
    pub run_over : (n : ℕ) (s : State M) → (c + 1) * (length script - s.used) + pending s.machine ≤ n
        → halted (next (run next resume words script n s).machine) (run next resume words script n s).used (length script) ≡ true
    unfolding times step
    run_over zero s l = by_test (halts s) refl
      where
        by_test : (t : Bool) → halts s ≡ t → halts s ≡ true
        by_test true t = t
        by_test false t = absurd (omega (arith, due_moved (next s.machine) s refl t))
    run_over (suc n) s l =
        by_test (halts s) refl
        (λ (t : halts s ≡ false). run_over n (after s) (omega (arith, due_moved (next s.machine) s refl t)))
      where
        by_test : (t : Bool) → halts s ≡ t → (halts s ≡ false → halts (run next resume words script n (after s)) ≡ true)
            → halts (run next resume words script n (cond t s (after s))) ≡ true
        by_test true t k = rw (run_halted next resume words script n s t) t
        by_test false t k = k t

    -- and is the unlimited run
    pub run_unlimited : (n : ℕ) (s : State M) → (c + 1) * (length script - s.used) + pending s.machine ≤ n
        → Unlimited next resume words script s (run next resume words script n s)
    run_unlimited n s l = record { accesses = n; reached = refl; over = run_over n s l }
