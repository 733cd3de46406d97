-- The run of a call as the loop makes it: its machine has the call beside the sequence.
-- Assumes nothing.
use Prim.Native.Nat.{ℕ, zero, suc}
use mathlib.Core.Bool.{Bool, true, false, cond}
use mathlib.Core.List.{List, []}
use mathlib.Core.Path.{◌≡◌, refl, ap, ap₂, ◌∙◌}
use lib.ListN.{length}
use Rattle.std.specs.Prelude.{Err}
use Rattle.sequences.specs.declared.access.Access.{Access}
use Rattle.sequences.specs.declared.access.RunError.TheVariants.{Limits}
use Rattle.sequences.specs.declared.call.Call.{Call}
use Rattle.sequences.specs.declared.driver.Lpspi.{Lpspi}
use Rattle.sequences.specs.declared.sequence.Sequence.{Sequence}
use Rattle.sequences.specs.Access.{Ending}
use Rattle.sequences.specs.Sequence.{sequence_start}
use Rattle.sequences.specs.Call.{call_start, call_access, call_after}
use Rattle.runs.specs.declared.call.Called.{Called}
use Rattle.runs.specs.declared.call.Calling.{Calling}
use Rattle.runs.specs.declared.running.Running.{Running}
use Rattle.runs.specs.Run.{State, start, step, after_access, times, run, limits, ending_of, halted, no_words, log_over}
use Rattle.runs.specs.Call.{call_states, call_left, called_by, call_run}
use Rattle.runs.specs.Running.{Ended}
use Rattle.runs.proofs.WordlessLaws.{came, no_frame}

-- the machine that the loop drives
abbrev pub calling : Call → Sequence → Calling
calling c s = record { call = c; sequence = s }

abbrev pub calling_due : Calling → Access
calling_due m = call_access m.call m.sequence

abbrev pub calling_after : Calling → ℕ → Calling
calling_after m v = calling m.call (call_after m.call m.sequence v)

module _ (c : Call) (script : List ℕ) where
  abbrev with_call : State Sequence → State Calling
  with_call s = record { machine = calling c s.machine; used = s.used; log = s.log; received = s.received }

  same_step : (s : State Sequence)
      → step calling_due calling_after no_words script (with_call s)
      ≡ with_call (step (call_access c) (call_after c) no_words script s)
  unfolding step after_access
  same_step s = by_test (halted (call_access c s.machine) s.used (length script)) _
    where
      by_test : (b : Bool) (x : State Sequence) → cond b (with_call s) (with_call x) ≡ with_call (cond b s x)
      by_test true x = refl
      by_test false x = refl

  same_run : (n : ℕ) (s : State Sequence)
      → run calling_due calling_after no_words script n (with_call s)
      ≡ with_call (run (call_access c) (call_after c) no_words script n s)
  unfolding times
  same_run zero s = refl
  same_run (suc n) s =
      ap (times (step calling_due calling_after no_words script) n) (same_step s)
      ∙ same_run n (step (call_access c) (call_after c) no_words script s)

-- what the loop hands over where it ends
abbrev pub called : Ending → ℕ → ℕ → Sequence → Called
called e made used s = record { ending = e; accesses = made; answers = used; sequence = s }

pub call_ended : (c : Call) (d : Lpspi) (budget : ℕ) (script old : List ℕ) (u : Calling) (e : Ending) (r : Running) (first : Sequence)
    → first ≡ call_start c d → r.frame ≡ no_frame → r.budget ≡ budget → r.script.now ≡ script → r.sent_words.now ≡ []
    → Ended calling_due calling_after old [] (calling c first) u e r
    → call_left (called e r.spot.made r.spot.used u.sequence) r.log.now ≡ called_by c old (call_states c d script budget)
unfolding called_by
call_ended c d budget script old u e r first begins ef eb es en h =
    let x = came calling_due calling_after budget script old (calling c first) u e r ef eb es en h in
    let s = call_states c d script budget in
    let same : run calling_due calling_after no_words script budget (start (calling c first)) ≡ with_call c script s =
    ap (λ (q : Sequence). run calling_due calling_after no_words script budget (start (calling c q))) begins
    ∙ same_run c script budget (start (call_start c d)) in
    let m = x.machine ∙ ap (λ (y : State Calling). y.machine) same in
    ap₂ (λ (z : Ending) (q : Sequence). call_left (called z r.spot.made r.spot.used q) r.log.now)
    (x.ending ∙ ap (λ (y : State Calling). ending_of (calling_due y.machine)) same) (ap (λ (y : Calling). y.sequence) m)
    ∙ ap₂ (λ (i j : ℕ). call_left (called (ending_of (call_access c s.machine)) i j s.machine) r.log.now)
    (x.made ∙ ap (λ (y : State Calling). length y.log) same) (x.used ∙ ap (λ (y : State Calling). y.used) same)
    ∙ ap (λ (l : List ℕ). call_left (called (ending_of (call_access c s.machine)) (length s.log) s.used s.machine) l)
    (x.held ∙ ap (λ (y : State Calling). log_over old y.log) same)

-- number 5, or the run
pub call_limits : (d : Lpspi) (c : Call) (budget : ℕ) (script log : List ℕ) (s : Sequence) → limits budget log ≡ true → s ≡ sequence_start d
    → call_left (called (Err Limits) 0 0 s) log ≡ call_run d c budget script log
unfolding call_run
call_limits d c budget script log s e es = rw e (ap (λ (x : Sequence). call_left (called (Err Limits) 0 0 x) log) es)

pub call_run_lem : (d : Lpspi) (c : Call) (budget : ℕ) (script log : List ℕ) → limits budget log ≡ false
    → called_by c log (call_states c d script budget) ≡ call_run d c budget script log
unfolding call_run
call_run_lem d c budget script log e = rw e
