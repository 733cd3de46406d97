-- The course of an end: over every list of events its accesses are those of its transfer's run, and then of its flush's, on the answers it
-- has had. It holds for any two boards, also those that do not fit. Assumes nothing.
use Prim.Native.Nat.{ℕ, zero, suc, ◌+◌, ◌<◌}
use mathlib.Core.Bool.{Bool, true, false, cond}
use mathlib.Core.List.{List, [], ◌∷◌, ◌++◌, append-nil, append_assoc}
use mathlib.Core.Path.{◌≡◌, refl, sym, ap, ◌∙◌}
use native.Mathlib.Nat.{add-zero}
use native.Mathlib.Omega.{arith}
use lib.ListN.{length, length-append, get_or-append}
use lib.Seq.{get_or-append_seam}
use borrow.Author.Tests.{lt-ltb, le-ltb, lt-leb}
use Rattle.manual.specs.declared.Register.{Register}
use Rattle.manual.specs.declared.Register.TheVariants.{PARAM, CR, SR, IER, DER, CFGR0, CFGR1, DMR0}
use Rattle.manual.specs.declared.Register.TheVariants.{DMR1, CCR, FCR, FSR, TCR, TDR, RSR, RDR}
use Rattle.manual.specs.Manual.{offset_of}
use Rattle.sequences.specs.declared.access.Access.{Access}
use Rattle.sequences.specs.declared.access.Access.TheVariants.{Read, Write, Send, Receive, Done}
use Rattle.sequences.specs.Access.{Ending}
use Rattle.machine.specs.declared.flush.Flush.{Flush}
use Rattle.machine.specs.declared.flush.Flush.TheVariants.{Status, Sizes, Counts, Ended as Flushed}
use Rattle.sequences.specs.declared.sequence.Sequence.{Sequence}
use Rattle.machine.specs.declared.transfer.Stage.{Stage}
use Rattle.machine.specs.declared.transfer.Stage.TheVariants.{Ended}
use Rattle.machine.specs.declared.transfer.Transfer.{Transfer}
use Rattle.machine.specs.declared.transfer.Work.{Work}
use Rattle.machine.specs.Flush.{flush_access, flushed}
use Rattle.machine.specs.Transfer.{at, due_access, resumed}
use Rattle.runs.specs.Run.{Logged, answer_of, received_after, ended, halted, State, start, times, after_access, step, run, no_words}
use Rattle.runs.specs.Unlimited.{Unlimited}
use Rattle.runs.proofs.Places.{done_phase}
use Rattle.runs.proofs.RunLaws.{run_add, run_last}
use Rattle.runs.proofs.RunUnlimited.{unlimited_run}
use Rattle.runs.proofs.RunDepends.{run_longer}
use Rattle.agreement.specs.declared.event.Event.{Event}
use Rattle.agreement.specs.declared.event.Event.TheVariants.{Step, Clock, Noise}
use Rattle.agreement.specs.declared.event.Side.{Side}
use Rattle.agreement.specs.declared.event.Side.TheVariants.{Gate, Antenna}
use Rattle.agreement.specs.Start.{Start, Job, job, transfer_of}
use Rattle.agreement.specs.End.{words_in, Wire, End, end, first_due, end_access, fresh_end, stepped}
use Rattle.agreement.specs.Events.{Pair, at_side, clocked_by, happened, after, fresh_pair}
use Rattle.agreement.specs.Course.{entry, accessed, heard_by, log_of, answer_in, answers_in, Makes, Course, start_at, CourseOf}

-- THE ANSWERS IN A LOG

offset_low : (r : Register) → offset_of r < 0x1000
offset_low PARAM = omega arith
offset_low CR = omega arith
offset_low SR = omega arith
offset_low IER = omega arith
offset_low DER = omega arith
offset_low CFGR0 = omega arith
offset_low CFGR1 = omega arith
offset_low DMR0 = omega arith
offset_low DMR1 = omega arith
offset_low CCR = omega arith
offset_low FCR = omega arith
offset_low FSR = omega arith
offset_low TCR = omega arith
offset_low TDR = omega arith
offset_low RSR = omega arith
offset_low RDR = omega arith

-- those that one access uses: a read one, a write none
abbrev used_by : Access → ℕ → List ℕ
used_by (Read r) v = v ∷ []
used_by (Write r w) v = []
used_by (Send i) v = []
used_by (Receive i) v = v ∷ []
used_by (Done e) v = []

answer_of_entry : (word : ℕ → ℕ) (a : Access) (v : ℕ) → ended a ≡ false → answer_in (entry word a v) ≡ used_by a v
answer_of_entry word (Read r) v h = rw (lt-ltb (offset_of r) 0x1000 (offset_low r))
answer_of_entry word (Write r w) v h = rw (le-ltb (0x1000 + offset_of r) 0x1000 (omega arith))
answer_of_entry word (Send i) v h = refl
answer_of_entry word (Receive i) v h = refl
answer_of_entry word (Done e) v h = absurd (grind arith)

answers_last : (log : List Logged) (l : Logged) → answers_in (log ++ (l ∷ [])) ≡ answers_in log ++ answer_in l
unfolding answers_in
answers_last [] l = append-nil (answer_in l)
answers_last (m ∷ log) l =
    ap (λ (x : List ℕ). answer_in m ++ x) (answers_last log l) ∙ sym (append_assoc (answer_in m) (answers_in log) (answer_in l))

-- ONE ACCESS MORE, of any machine
module _ {M : Type 0} (next : M → Access) (resume : M → ℕ → M) (words : List ℕ → ℕ → ℕ) where
  abbrev state : M → ℕ → List Logged → List ℕ → State M
  state m used log rs = record { machine = m; used = used; log = log; received = rs }

  -- a step with just the answer that its access uses left in the script
  step_makes : (a : Access) (v : ℕ) (m : M) (xs : List ℕ) (log : List Logged) (rs : List ℕ) → next m ≡ a → ended a ≡ false
      → step next resume words (xs ++ used_by a v) (state m (length xs) log rs)
      ≡ state (resume m (answer_of a v)) (length (xs ++ used_by a v)) (log ++ (entry (words rs) a v ∷ [])) (received_after a v rs)
  unfolding step after_access
  step_makes (Read r) v m xs log rs e h =
      rw (e, length-append xs (v ∷ []), lt-leb (length xs + 1) (length xs) (omega arith), get_or-append_seam xs v [] 0)
  step_makes (Write r w) v m xs log rs e h = rw (e, append-nil xs, add-zero (length xs))
  step_makes (Send i) v m xs log rs e h = rw (e, append-nil xs, add-zero (length xs))
  step_makes (Receive i) v m xs log rs e h =
      rw (e, length-append xs (v ∷ []), lt-leb (length xs + 1) (length xs) (omega arith), get_or-append_seam xs v [] 0)
  step_makes (Done x) v m xs log rs e h = absurd (grind arith)

  -- a run that made the accesses of a log makes the one that is due next, whatever it is answered
  makes_next : (a : Access) (v : ℕ) (m₀ m : M) (log : List Logged) (rs : List ℕ) → next m ≡ a → ended a ≡ false
      → Makes next resume words m₀ log m rs
      → Makes next resume words m₀ (log ++ (entry (words rs) a v ∷ [])) (resume m (answer_of a v)) (received_after a v rs)
  makes_next a v m₀ m log rs e h k =
      let xs = answers_in log in
      let ys = xs ++ used_by a v in
      let all_made : length (run next resume words xs (length log) (start m₀)).log ≡ 0 + length log = rw k (omega arith) in
      rw (answers_last log (entry (words rs) a v), answer_of_entry (words rs) a v h, length-append log (entry (words rs) a v ∷ []))
      (run_last next resume words ys (length log) (start m₀)
      ∙ ap (step next resume words ys)
      (sym
      (run_longer next resume words xs ys (omega (arith, length-append xs (used_by a v)))
      (λ i h'. sym (get_or-append xs (used_by a v) 0 i h')) (length log) (start m₀) all_made)
      ∙ k)
      ∙ step_makes a v m xs log rs e h)

-- NO LIMIT ON ACCESSES
module _ {M : Type 0} (next : M → Access) (resume : M → ℕ → M) (words : List ℕ → ℕ → ℕ) where
  -- a run only adds to its log
  abbrev Adds : State M → State M → Type 0
  Adds s u = (rest : List Logged) × (u.log ≡ s.log ++ rest)

  step_adds : (script : List ℕ) (s : State M) → Adds s (step next resume words script s)
  unfolding step after_access
  step_adds script s = by_test (halted (next s.machine) s.used (length script))
    where
      by_test : (b : Bool) → Adds s (cond b s (after_access next resume words script (next s.machine) s))
      by_test true = ([], sym (append-nil s.log))
      by_test false = (_, refl)

  run_adds : (script : List ℕ) (n : ℕ) (s : State M) → Adds s (run next resume words script n s)
  unfolding times
  run_adds script zero s = ([], sym (append-nil s.log))
  run_adds script (suc n) s =
      let k = step_adds script s in
      let l = run_adds script n (step next resume words script s) in
      (k.0 ++ l.0, l.1 ∙ ap (λ (x : List Logged). x ++ l.0) k.1 ∙ append_assoc s.log k.0 l.0)

  -- a run that made the accesses of a log is the beginning of the one with no limit on accesses (`Unlimited`), on the same answers
  pub makes_begins : (m m' : M) (log : List Logged) (rs : List ℕ) (u : State M) → Makes next resume words m log m' rs
      → Unlimited next resume words (answers_in log) (start m) u
      → (rest : List Logged) × (u.log ≡ log ++ rest)
  makes_begins m m' log rs u made h =
      let script = answers_in log in
      let k = run_adds script h.accesses (run next resume words script (length log) (start m)) in
      let all : run next resume words script (length log + h.accesses) (start m) ≡ u =
      unlimited_run next resume words script (start m) u h (length log + h.accesses) (omega arith) in (
        k.0,
        ap (λ (s : State M). s.log) (sym all ∙ run_add next resume words script (length log) h.accesses (start m))
            ∙ k.1
            ∙ ap (λ (s : State M). s.log ++ k.0) made,
      )

-- WHAT HAS ENDED STAYS

transfer_stays : (t : Transfer) (v : ℕ) → ended (due_access t) ≡ true → resumed t v ≡ t
unfolding resumed
transfer_stays t v h = by_due (due_access t) refl h
  where
    by_phase : (p : Stage) (w : Work) (r : Sequence) (x : Ending) → p ≡ Ended x → resumed (at p w r) v ≡ at p w r
    by_phase p w r x e = rw e

    by_due : (a : Access) → due_access t ≡ a → ended a ≡ true → resumed t v ≡ t
    by_due (Read r) e h = cc
    by_due (Write r w) e h = cc
    by_due (Send i) e h = cc
    by_due (Receive i) e h = cc
    by_due (Done x) e h = by_phase t.phase t.work t.reset x (done_phase t.phase t.work t.reset x e)

flush_stays : (f : Flush) (v : ℕ) → ended (flush_access f) ≡ true → flushed f v ≡ f
flush_stays Status v h = cc
flush_stays Sizes v h = cc
flush_stays Counts v h = cc
flush_stays (Flushed x) v h = refl

-- the transfer's access comes first, and the flush's once it has none
transfer_first : (a later : Access) → ended a ≡ false → first_due a later ≡ a
transfer_first (Read r) later h = refl
transfer_first (Write r v) later h = refl
transfer_first (Send i) later h = refl
transfer_first (Receive i) later h = refl
transfer_first (Done x) later h = cc

then_flush : (a later : Access) → ended a ≡ true → first_due a later ≡ later
then_flush (Read r) later h = cc
then_flush (Write r v) later h = cc
then_flush (Send i) later h = cc
then_flush (Receive i) later h = cc
then_flush (Done x) later h = refl

both_ended : (a later : Access) → ended (first_due a later) ≡ true → (ended a ≡ true) × (ended later ≡ true)
both_ended (Read r) later h = (cc, cc)
both_ended (Write r v) later h = (cc, cc)
both_ended (Send i) later h = (cc, cc)
both_ended (Receive i) later h = (cc, cc)
both_ended (Done x) later h = (refl, h)

-- A FINISHED END DOES NOTHING
pub finished_stays : (j : Job) (busy : Bool) (x : End) (z : Ending) → end_access x.transfer x.flush ≡ Done z → stepped j busy x ≡ x
unfolding stepped
finished_stays j busy x z e =
    let both = both_ended (due_access x.transfer) (flush_access x.flush) (ap ended e) in
    rw (e, transfer_stays x.transfer 0 both.0, both.0, flush_stays x.flush 0 both.1)

-- A STEP OF AN END

no_flush_yet : (log : List Logged) (b : Bool) → b ≡ false → (0 < length log → b ≡ true) → log ≡ []
no_flush_yet [] b e h = refl
no_flush_yet (l ∷ log) b e h = absurd (let z : ◌≡◌ {A = ℕ} 0 1 = cc (h (omega arith)) in omega arith)

module _ {j : Job} {t : Transfer} where
  transfer_goes_on : {x : End} {log : List Logged} {w : Wire} {registers : List ℕ} (v : ℕ)
      → ended (due_access x.transfer) ≡ false → Course j t x log
      → Course j t
      (end (resumed x.transfer (answer_of (due_access x.transfer) v)) x.flush
      (received_after (due_access x.transfer) v x.received) w registers)
      (log ++ (entry (j.words x.received) (due_access x.transfer) v ∷ []))
  transfer_goes_on {x = x} v h c =
      let a = due_access x.transfer in
      let l = entry (j.words x.received) a v in
      let none = no_flush_yet c.flush_log (ended a) h c.turn in
      record {
        transfer_log = c.transfer_log ++ (l ∷ []);
        flush_log = c.flush_log;
        parts = rw (c.parts, none, append-nil c.transfer_log, append-nil (c.transfer_log ++ (l ∷ [])));
        transfer = makes_next due_access resumed j.words a v t x.transfer c.transfer_log x.received refl h c.transfer;
        flush = c.flush;
        turn = λ h'. absurd (omega (arith, h', ap length none));
      }

  flush_goes_on : {x : End} {log : List Logged} {w : Wire} {registers : List ℕ} (r : Register) (v : ℕ)
      → flush_access x.flush ≡ Read r → ended (due_access x.transfer) ≡ true
      → Course j t x log
      → Course j t (end x.transfer (flushed x.flush v) x.received w registers)
      (log ++ (record { at = offset_of r; value = v } ∷ []))
  flush_goes_on {x = x} r v e h c =
      let l : List Logged = record { at = offset_of r; value = v } ∷ [] in
      record {
        transfer_log = c.transfer_log;
        flush_log = c.flush_log ++ l;
        parts = rw c.parts (append_assoc c.transfer_log c.flush_log l);
        transfer = c.transfer;
        flush = makes_next flush_access flushed no_words (Read r) v Status x.flush c.flush_log [] e refl c.flush;
        turn = λ h'. h;
      }

  -- only queues, flags and registers may have changed
  no_access : {x : End} {log : List Logged} {w : Wire} {registers : List ℕ} → Course j t x log
      → Course j t (end x.transfer x.flush x.received w registers) (log ++ [])
  no_access {log = log} c = record {
    transfer_log = c.transfer_log;
    flush_log = c.flush_log;
    parts = append-nil log ∙ c.parts;
    transfer = c.transfer;
    flush = c.flush;
    turn = c.turn;
  }

  flush_step : {m : Transfer} {rs : List ℕ} {w : Wire} {registers : List ℕ} {log : List Logged} (busy : Bool) (f : Flush)
      → ended (due_access m) ≡ true
      → Course j t (end m f rs w registers) log
      → Course j t (stepped j busy (end m f rs w registers)) (log ++ accessed j busy (end m f rs w registers))
  unfolding stepped
  flush_step {m = m} busy Status h c = rw (then_flush (due_access m) (Read SR) h, transfer_stays m _ h, h) (flush_goes_on SR _ refl h c)
  flush_step {m = m} busy Sizes h c = rw (then_flush (due_access m) (Read PARAM) h, transfer_stays m _ h, h) (flush_goes_on PARAM _ refl h c)
  flush_step {m = m} busy Counts h c = rw (then_flush (due_access m) (Read FSR) h, transfer_stays m _ h, h) (flush_goes_on FSR _ refl h c)
  flush_step {m = m} busy (Flushed z) h c = rw (then_flush (due_access m) (Done z) h, transfer_stays m _ h, h) (no_access c)

  -- EVERY STEP OF AN END KEEPS THE COURSE
  pub course_step : {x : End} {log : List Logged} (busy : Bool) → Course j t x log
      → Course j t (stepped j busy x) (log ++ accessed j busy x)
  unfolding stepped
  course_step {x = x} {log = log} busy c = by_turn (ended (due_access x.transfer)) refl
    where
      by_turn : (b : Bool) → ended (due_access x.transfer) ≡ b → Course j t (stepped j busy x) (log ++ accessed j busy x)
      by_turn false h = rw (transfer_first (due_access x.transfer) (flush_access x.flush) h, h) (transfer_goes_on _ h c)
      by_turn true h = flush_step busy x.flush h c

fresh_course : (s : Start) → Course (job s) (transfer_of s) (fresh_end s) []
unfolding times answers_in
fresh_course s =
    record { transfer_log = []; flush_log = []; parts = refl; transfer = refl; flush = refl; turn = λ h. absurd (omega (arith, h)) }

-- A LIST OF EVENTS, of either end
module _ (g a : Start) (t : Transfer) where
  abbrev OnCourse : Side → Pair → List Logged → Type 0
  OnCourse s p log = Course (job (start_at s g a)) t (at_side s p) log

  course_clock : (s : Side) (ours theirs : List ℕ) (p : Pair) (log : List Logged) → OnCourse s p log
      → OnCourse s (clocked_by (job g) (job a) ours theirs p) (log ++ [])
  unfolding clocked_by
  course_clock Gate [] theirs p log c = no_access c
  course_clock Gate (v ∷ ours) [] p log c = no_access c
  course_clock Gate (v ∷ ours) (u ∷ theirs) p log c = no_access c
  course_clock Antenna [] theirs p log c = no_access c
  course_clock Antenna (v ∷ ours) [] p log c = no_access c
  course_clock Antenna (v ∷ ours) (u ∷ theirs) p log c = no_access c

  course_event : (s : Side) (v : Event) (p : Pair) (log : List Logged) → OnCourse s p log
      → OnCourse s (happened (job g) (job a) p v) (log ++ heard_by (job g) (job a) s p v)
  unfolding happened
  course_event Gate (Step Gate busy) p log c = course_step busy c
  course_event Gate (Step Antenna busy) p log c = no_access c
  course_event Gate Clock p log c =
      course_clock Gate (words_in p.gate.wire.transmit) (words_in p.antenna.wire.transmit) p log c
  course_event Gate (Noise Gate d) p log c = no_access c
  course_event Gate (Noise Antenna d) p log c = no_access c
  course_event Antenna (Step Gate busy) p log c = no_access c
  course_event Antenna (Step Antenna busy) p log c = course_step busy c
  course_event Antenna Clock p log c =
      course_clock Antenna (words_in p.gate.wire.transmit) (words_in p.antenna.wire.transmit) p log c
  course_event Antenna (Noise Gate d) p log c = no_access c
  course_event Antenna (Noise Antenna d) p log c = no_access c

  course_after : (s : Side) (vs : List Event) (p : Pair) (log : List Logged) → OnCourse s p log
      → OnCourse s (after (job g) (job a) p vs) (log ++ log_of (job g) (job a) s p vs)
  unfolding after log_of
  course_after s [] p log c = rw (append-nil log) c
  course_after s (v ∷ vs) p log c =
      rw append_assoc at
      (course_after s vs (happened (job g) (job a) p v) (log ++ heard_by (job g) (job a) s p v) (course_event s v p log c))

-- THE COURSE OF EITHER END, for any two boards and every list of events
pub course : (s : Side) (g a : Start) (vs : List Event) → CourseOf s g a vs
course Gate g a vs = course_after g a (transfer_of g) Gate vs (fresh_pair g a) [] (fresh_course g)
course Antenna g a vs = course_after g a (transfer_of a) Antenna vs (fresh_pair g a) [] (fresh_course a)
