-- What holds of a transfer's phase and work, its log and its unready polls so far, and is kept by every access, holds where its run ends
-- Ok. Assumes nothing.
use Prim.Native.Nat.{ℕ, zero, suc, ◌+◌}
use mathlib.Core.Bool.{Bool, true, false, cond}
use mathlib.Core.List.{List, [], ◌∷◌, ◌++◌}
use mathlib.Core.Path.{◌≡◌, refl, ap, subst}
use native.Mathlib.Nat.{add-zero, zero-add, add_assoc}
use lib.ListN.{length, get_or}
use Rattle.sequences.specs.declared.access.Access.{Access}
use Rattle.sequences.specs.declared.access.Access.TheVariants.{Read, Write, Done, Send as SendWord, Receive as ReceiveWord}
use Rattle.std.specs.Prelude.{Ok}
use Rattle.machine.specs.declared.transfer.Stage.{Stage}
use Rattle.machine.specs.declared.transfer.Stage.TheVariants.{Ended}
use Rattle.machine.specs.declared.transfer.Transfer.{Transfer}
use Rattle.machine.specs.declared.transfer.Work.{Work}
use Rattle.machine.specs.Transfer.{due_access, resumed}
use Rattle.runs.specs.Run.{Logged, State, halted, answer_of, code_of, ending_of, times, after_access, step, run}
use Rattle.runs.proofs.Places.{Standing, Placed, placed_step, done_phase}
use Rattle.bill.specs.Unready.{unready_in, unready, unready_polls}

abbrev pub Holding : Type 1
Holding = Stage → Work → List Logged → ℕ → Type 0

-- the access of t that is due, as a log has it
abbrev pub entry : Transfer → ℕ → Logged
entry t value = record { at = code_of (due_access t); value = value }

-- kept by that access, which is answered v
abbrev pub Kept : Holding → Type 0
Kept Holds =
    (t : Transfer) (l : List Logged) (value v n used answers : ℕ) → halted (due_access t) used answers ≡ false
    → Standing t.phase t.work → Holds t.phase t.work l n
    → Holds (resumed t (answer_of (due_access t) v)).phase (resumed t (answer_of (due_access t) v)).work
    (l ++ (entry t value ∷ [])) (n + unready_in t.phase v)

-- a run ends Ok where its machine answers Ok
pub ok_done : (a : Access) → ending_of a ≡ Ok tt → a ≡ Done (Ok tt)
ok_done (Read r) e = cc
ok_done (Write r v) e = cc
ok_done (SendWord i) e = cc
ok_done (ReceiveWord i) e = cc
ok_done (Done x) e = ap Done e

-- a run that makes no access has none
pub no_polls : (script : List ℕ) (words : List ℕ → ℕ → ℕ) (budget : ℕ) (s : State Transfer)
    → halted (due_access s.machine) s.used (length script) ≡ true
    → unready_polls script words budget s ≡ 0
unfolding unready_polls step
no_polls script words zero s h = refl
no_polls script words (suc budget) s h = rw (h, zero-add) (no_polls script words budget s h)

module _ (script : List ℕ) (words : List ℕ → ℕ → ℕ) (send receive : ℕ) (Holds : Holding) (kept : Kept Holds) where
  abbrev Now : State Transfer → ℕ → Type 0
  Now s n = Holds s.machine.phase s.machine.work s.log n

  step_keeps : (s : State Transfer) (n : ℕ) → Placed send receive s.machine (length s.received) → Now s n
      → Now (step due_access resumed words script s) (n + unready script s)
  unfolding step after_access
  step_keeps s n p h = by_test (halted (due_access s.machine) s.used (length script)) refl
    where
      by_test : (t : Bool) → halted (due_access s.machine) s.used (length script) ≡ t
          → Now (cond t s (after_access due_access resumed words script (due_access s.machine) s))
          (n + cond t 0 (unready_in s.machine.phase (get_or script s.used 0)))
      by_test true t = rw add-zero h
      by_test false t = kept s.machine s.log _ (get_or script s.used 0) n s.used (length script) t p.turn h

  run_keeps : (budget : ℕ) (s : State Transfer) (n : ℕ) → Placed send receive s.machine (length s.received) → Now s n
      → Now (run due_access resumed words script budget s) (n + unready_polls script words budget s)
  unfolding times unready_polls
  run_keeps zero s n p h = rw add-zero h
  run_keeps (suc budget) s n p h =
      rw (← add_assoc)
      (run_keeps budget (step due_access resumed words script s) (n + unready script s)
      (placed_step send receive words script s p) (step_keeps s n p h))

  pub ok_keeps : (budget : ℕ) (s : State Transfer) → Placed send receive s.machine (length s.received) → Now s 0
      → ending_of (due_access (run due_access resumed words script budget s).machine) ≡ Ok tt
      → Holds (Ended (Ok tt)) (run due_access resumed words script budget s).machine.work
      (run due_access resumed words script budget s).log (unready_polls script words budget s)
  ok_keeps budget s p h e =
      let t : Transfer = (run due_access resumed words script budget s).machine in
      subst (λ (q : Stage). Holds q t.work (run due_access resumed words script budget s).log (unready_polls script words budget s))
      (done_phase t.phase t.work t.reset (Ok tt) (ok_done (due_access t) e))
      (rw (← zero-add (unready_polls script words budget s)) (run_keeps budget s 0 p h))
