-- Where `set_clock_hz` answers 0 it has written CCR once, with the word that the clock entry answers, and the next driver value keeps that
-- word's DBT and SCKDIV.
-- Assumes nothing.
use Prim.Native.Nat.{ℕ, zero, suc, ◌<◌}
use mathlib.Core.Bool.{Bool, true, false, cond}
use mathlib.Core.List.{List, [], ◌∷◌, ◌++◌, append-nil, append_assoc}
use mathlib.Core.Path.{◌≡◌, refl, sym, ap, ap₂, ◌∙◌}
use native.Mathlib.Omega.{arith}
use lib.Dec.{eqb}
use lib.ListN.{length, get_or}
use Rattle.manual.specs.declared.Cr.TheVariants.{MEN}
use Rattle.manual.specs.declared.Field.TheVariants.{Cr}
use Rattle.manual.specs.declared.Register.{Register}
use Rattle.manual.specs.declared.Register.TheVariants.{CR, CCR}
use Rattle.manual.specs.Manual.{read_field}
use Rattle.words.specs.declared.clock.ClockConfigs.{ClockConfigs}
use Rattle.words.specs.Clock.{clocked, clock_word}
use Rattle.words.specs.Tolerance.{word_for, Tolerance}
use Rattle.words.proofs.ToleranceLaws.{tolerance}
use Rattle.sequences.specs.declared.access.Access.{Access}
use Rattle.sequences.specs.declared.access.Access.TheVariants.{Read}
use Rattle.std.specs.Prelude.{Ok}
use Rattle.sequences.specs.declared.call.Call.{Call}
use Rattle.sequences.specs.declared.call.Call.TheVariants.{SetClockConfigs}
use Rattle.sequences.specs.declared.driver.Lpspi.{Lpspi}
use Rattle.sequences.specs.declared.sequence.Sequence.{Sequence}
use Rattle.sequences.specs.Driver.{with_clock}
use Rattle.sequences.specs.Call.{call_start, call_access, call_after}
use Rattle.sequences.proofs.EndingLaws.{zero_is_ok}
use Rattle.runs.specs.Run.{Logged, State, Left, flat, code_of, value_of, answer_of, halted, ending_of, times, after_access, step, run, start}
use Rattle.runs.specs.Run.{no_words, limits, over_limits}
use Rattle.runs.specs.Call.{call_states, called_by, call_run}
use Rattle.calls.specs.Calls.{ran_call, clock_refused, set_clock_hz_run}
use Rattle.calls.specs.ClockSet.{write_to, writes_to, ClockSet}

-- THE LOG

-- what the accesses of a run write to r
abbrev writes_in : Register → List Logged → List ℕ
writes_in r [] = []
writes_in r (a ∷ l) = write_to r a.at a.value ++ writes_in r l

flat_writes : (r : Register) (l : List Logged) (rest : List ℕ) → writes_to r (length l) (flat l ++ rest) ≡ writes_in r l
flat_writes r [] rest = refl
flat_writes r (a ∷ l) rest = ap (λ (x : List ℕ). write_to r a.at a.value ++ x) (flat_writes r l rest)

writes_on : (r : Register) (l : List Logged) (a : Logged) → writes_in r (l ++ (a ∷ [])) ≡ writes_in r l ++ write_to r a.at a.value
writes_on r [] a = append-nil (write_to r a.at a.value)
writes_on r (b ∷ l) a =
    ap (λ (x : List ℕ). write_to r b.at b.value ++ x) (writes_on r l a)
    ∙ sym (append_assoc (write_to r b.at b.value) (writes_in r l) (write_to r a.at a.value))

-- THE RUN, by the place in the call's table: 3 is the wait for MEN 0, 4 the write of CCR
module _ (k : ClockConfigs) (d : Lpspi) where
  abbrev call : Call
  call = SetClockConfigs k

  -- the driver value and what was written to CCR, before the access at a place
  abbrev Now : ℕ → Lpspi → List ℕ → Type 0
  Now zero driver ws = (driver ≡ d) × (ws ≡ [])
  Now (suc zero) driver ws = (driver ≡ d) × (ws ≡ [])
  Now (suc (suc zero)) driver ws = (driver ≡ d) × (ws ≡ [])
  Now (suc (suc (suc zero))) driver ws = (driver ≡ d) × (ws ≡ [])
  Now (suc (suc (suc (suc zero)))) driver ws = (driver ≡ with_clock k d) × (ws ≡ [])
  Now (suc (suc (suc (suc (suc n))))) driver ws = (driver ≡ with_clock k d) × (ws ≡ clock_word k ∷ [])

  abbrev Here : Sequence → List Logged → Type 0
  Here s l = Now s.place s.driver (writes_in CCR l)

  -- an access that does not write CCR
  none_more : (l : List Logged) (a : Logged) {ws : List ℕ} → write_to CCR a.at a.value ≡ [] → writes_in CCR l ≡ ws
      → writes_in CCR (l ++ (a ∷ [])) ≡ ws
  none_more l a n e = writes_on CCR l a ∙ ap₂ (λ (x y : List ℕ). x ++ y) e n ∙ append-nil _

  abbrev sequence : Bool → ℕ → ℕ → List ℕ → Lpspi → Sequence
  sequence oversize place held kept driver = record { place = place; held = held; kept = kept; oversize = oversize; driver = driver }

  abbrev entry : Access → ℕ → Logged
  entry a v = record { at = code_of a; value = value_of (λ (i : ℕ). 0) a v }

  abbrev Kept : Sequence → List Logged → Type 0
  Kept s l =
      (v used answers : ℕ) → halted (call_access call s) used answers ≡ false → Here s l
      → Here (call_after call s (answer_of (call_access call s) v)) (l ++ (entry (call_access call s) v ∷ []))

  -- every access keeps it
  access_keeps : (b : Bool) (place held : ℕ) (kept : List ℕ) (driver : Lpspi) (l : List Logged) → Kept (sequence b place held kept driver) l
  unfolding call_access call_after
  access_keeps true place held kept driver l v used answers h n = let z : ◌≡◌ {A = ℕ} 0 1 = cc in absurd (omega arith)
  access_keeps false zero held kept driver l v used answers h n = (n.0, none_more l _ refl n.1)
  access_keeps false (suc zero) held kept driver l v used answers h n = (n.0, none_more l _ refl n.1)
  access_keeps false (suc (suc zero)) held kept driver l v used answers h n = (n.0, none_more l _ refl n.1)
  access_keeps false (suc (suc (suc zero))) held kept driver l v used answers h n = waited (eqb (read_field (Cr MEN) v) 1)
    where
      waited : (b : Bool)
          → Here (cond b (sequence false 3 held kept driver) (sequence false 4 held kept (with_clock k driver)))
          (l ++ (entry (Read CR) v ∷ []))
      waited true = (n.0, none_more l _ refl n.1)
      waited false = (ap (with_clock k) n.0, none_more l _ refl n.1)
  access_keeps false (suc (suc (suc (suc zero)))) held kept driver l v used answers h n =
      (n.0, writes_on CCR l _ ∙ ap (λ (x : List ℕ). x ++ (clock_word k ∷ [])) n.1)
  access_keeps false (suc (suc (suc (suc (suc zero))))) held kept driver l v used answers h n = (n.0, none_more l _ refl n.1)
  access_keeps false (suc (suc (suc (suc (suc (suc zero)))))) held kept driver l v used answers h n = (n.0, none_more l _ refl n.1)
  access_keeps false (suc (suc (suc (suc (suc (suc (suc m))))))) held kept driver l v used answers h n = (n.0, none_more l _ refl n.1)

  -- Ok comes only behind the write
  ok_behind : (b : Bool) (place held : ℕ) (kept : List ℕ) (driver : Lpspi) (ws : List ℕ)
      → ending_of (call_access call (sequence b place held kept driver)) ≡ Ok tt → Now place driver ws
      → (driver ≡ with_clock k d) × (ws ≡ clock_word k ∷ [])
  unfolding call_access
  ok_behind true place held kept driver ws e n = (cc, cc)
  ok_behind false zero held kept driver ws e n = (cc, cc)
  ok_behind false (suc zero) held kept driver ws e n = (cc, cc)
  ok_behind false (suc (suc zero)) held kept driver ws e n = (cc, cc)
  ok_behind false (suc (suc (suc zero))) held kept driver ws e n = (cc, cc)
  ok_behind false (suc (suc (suc (suc zero)))) held kept driver ws e n = (cc, cc)
  ok_behind false (suc (suc (suc (suc (suc m))))) held kept driver ws e n = n

  module _ (script : List ℕ) where
    abbrev Holds : State Sequence → Type 0
    Holds s = Here s.machine s.log

    step_keeps : (s : State Sequence) → Holds s → Holds (step (call_access call) (call_after call) no_words script s)
    unfolding step after_access
    step_keeps s h = by_test (halted (call_access call s.machine) s.used (length script)) refl
      where
        by_test : (t : Bool) → halted (call_access call s.machine) s.used (length script) ≡ t
            → Holds (cond t s (after_access (call_access call) (call_after call) no_words script (call_access call s.machine) s))
        by_test true t = h
        by_test false t =
            let m = s.machine in
            let v = get_or script s.used 0 in
            access_keeps m.oversize m.place m.held m.kept m.driver s.log v s.used (length script) t h

    run_keeps : (budget : ℕ) (s : State Sequence) → Holds s → Holds (run (call_access call) (call_after call) no_words script budget s)
    unfolding times
    run_keeps zero s h = h
    run_keeps (suc budget) s h = run_keeps budget (step (call_access call) (call_after call) no_words script s) (step_keeps s h)

    -- what a run that answers 0 leaves
    abbrev Sets : Left → Type 0
    Sets x = x.number ≡ 0 → (x.result.driver ≡ with_clock k d) × (writes_to CCR x.result.accesses x.log ≡ clock_word k ∷ [])

    run_sets : (budget : ℕ) (log : List ℕ) → Sets (ran_call (called_by call log (call_states call d script budget)))
    unfolding called_by
    run_sets budget log e =
        let s = call_states call d script budget in
        let m = s.machine in
        let ok = zero_is_ok (ending_of (call_access call m)) e in
        let held = run_keeps budget (start (call_start call d)) (refl, refl) in
        let w = ok_behind m.oversize m.place m.held m.kept m.driver (writes_in CCR s.log) ok held in
        (w.0, flat_writes CCR s.log _ ∙ w.1)

    call_sets : (budget : ℕ) (log : List ℕ) → limits budget log ≡ false → Sets (ran_call (call_run d call budget script log))
    unfolding call_run
    call_sets budget log e = rw e (run_sets budget log)

-- THE CLOCK IS SET where `set_clock_hz` answers 0
module _ (d : Lpspi) (source clock budget : ℕ) (script log : List ℕ) where
  abbrev ran_set : Left
  ran_set = ran_call (call_run d (SetClockConfigs (clocked source clock).configs) budget script log)

  abbrev SetsClock : Left → Type 0
  SetsClock x = x.number ≡ 0 → ClockSet d source clock x.result.driver x.result.accesses x.log

  by_number : (b : Bool) → limits budget log ≡ false → SetsClock (cond b ran_set (clock_refused d log))
  by_number true t e =
      let s = call_sets (clocked source clock).configs d script budget log t e in
      record { ccr = s.1; driver = s.0 }
  by_number false t e = absurd (omega arith)

  by_limits : (b : Bool) → limits budget log ≡ b
      → SetsClock (cond b (over_limits d log) (cond (eqb (clocked source clock).number 0) ran_set (clock_refused d log)))
  by_limits true t e = absurd (omega arith)
  by_limits false t e = by_number (eqb (clocked source clock).number 0) t e

  pub clock_set : SetsClock (set_clock_hz_run d source clock budget script log)
  clock_set = by_limits (limits budget log) refl

-- THE TOLERANCE of the words that two such runs write to CCR
pub set_tolerance : (c s t : ℕ) → 0 < c → 0 < s → 0 < t → {d d' next next' : Lpspi} {m n : ℕ} {log log' : List ℕ}
    → ClockSet d s c next m log → ClockSet d' t c next' n log'
    → (u v : ℕ) → writes_to CCR m log ≡ u ∷ [] → writes_to CCR n log' ≡ v ∷ [] → Tolerance c s t u v
set_tolerance c s t hc hs ht x y u v eu ev =
    let first : List ℕ → ℕ = λ l. get_or l 0 0 in
    let u-is : u ≡ word_for s c = ap first (sym eu ∙ x.ccr) in
    let v-is : v ≡ word_for t c = ap first (sym ev ∙ y.ccr) in
    rw (u-is, v-is) (tolerance c s t hc hs ht)
