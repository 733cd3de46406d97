-- A run that sends no FIFO word and has no place for one, as the code drives it, is a run of `no_words`.
-- Assumes nothing.
use Prim.Native.Nat.{ℕ, zero, suc}
use mathlib.Core.Bool.{false}
use mathlib.Core.List.{List, []}
use mathlib.Core.Path.{◌≡◌, refl, sym, ap, ◌∙◌}
use native.Mathlib.Omega.{arith}
use lib.ListN.{length, get_or, get_or-eq_default}
use Rattle.words.specs.declared.width.Width.TheVariants.{U32}
use Rattle.sequences.specs.declared.access.Access.{Access}
use Rattle.sequences.specs.declared.access.Access.TheVariants.{Read, Write, Send, Receive, Done}
use Rattle.sequences.specs.Access.{Ending}
use Rattle.runs.specs.declared.drive.Frame.{Frame}
use Rattle.runs.specs.declared.running.Running.{Running}
use Rattle.runs.specs.Run.{State, start, step, after_access, times, run, ending_of, value_of, no_words, log_over}
use Rattle.runs.specs.Drive.{sent_from}
use Rattle.runs.specs.Running.{states, Ended}

abbrev pub no_frame : Frame
no_frame = record { width = U32; total = 0; inplace = false }

-- what the code holds is that of the state s
pub record Came {M : Type 0} (next : M → Access) (old : List ℕ) (u : M) (e : Ending) (r : Running) (s : State M) : Type 0 where
  pub machine : u ≡ s.machine
  pub used : r.spot.used ≡ s.used
  pub made : r.spot.made ≡ length s.log
  pub held : r.log.now ≡ log_over old s.log
  pub ending : e ≡ ending_of (next s.machine)

module _ {M : Type 0} (next : M → Access) (resume : M → ℕ → M) where
  no_word : (a : Access) (rs : List ℕ) (v : ℕ) → value_of (sent_from no_frame [] [] rs) a v ≡ value_of (no_words rs) a v
  no_word (Read r) rs v = refl
  no_word (Write r w) rs v = refl
  no_word (Send i) rs v = get_or-eq_default [] 0 {n = i} (omega arith)
  no_word (Receive i) rs v = refl
  no_word (Done e) rs v = refl

  module _ (script : List ℕ) where
    same_step : (s : State M) → step next resume (sent_from no_frame [] []) script s ≡ step next resume no_words script s
    unfolding step after_access
    same_step s = rw (no_word (next s.machine) s.received (get_or script s.used 0))

    same_run : (n : ℕ) (s : State M) → run next resume (sent_from no_frame [] []) script n s ≡ run next resume no_words script n s
    unfolding times
    same_run zero s = refl
    same_run (suc n) s =
        ap (times (step next resume (sent_from no_frame [] []) script) n) (same_step s)
        ∙ same_run n (step next resume no_words script s)

  pub came : (budget : ℕ) (script old : List ℕ) (t u : M) (e : Ending) (r : Running)
      → r.frame ≡ no_frame → r.budget ≡ budget → r.script.now ≡ script → r.sent_words.now ≡ []
      → Ended next resume old [] t u e r → Came next old u e r (run next resume no_words script budget (start t))
  came budget script old t u e r ef eb es en h =
      let all : (n : ℕ) → states next resume r.frame r.script.now r.sent_words.now [] t n ≡ run next resume no_words script n (start t) =
      λ n. rw (ef, es, en) (same_run script n (start t)) in
      let last : states next resume r.frame r.script.now r.sent_words.now [] t r.spot.made ≡ run next resume no_words script budget (start t) =
      sym h.last ∙ all r.budget ∙ ap (λ (n : ℕ). run next resume no_words script n (start t)) eb in
      record {
        machine = sym h.here.machine ∙ ap (λ (s : State M). s.machine) last;
        used = sym h.here.used ∙ ap (λ (s : State M). s.used) last;
        made = sym h.here.pairs ∙ ap (λ (s : State M). length s.log) last;
        held = h.here.held ∙ ap (λ (s : State M). log_over old s.log) last;
        ending = h.ending ∙ ap (λ (m : M). ending_of (next m)) (sym h.here.machine ∙ ap (λ (s : State M). s.machine) last);
      }
