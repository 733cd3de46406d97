-- What a run depends on, for every machine: control does not depend on the data, and what a run does before it needs answer k does not
-- depend on the answers from k on.
-- Assumes nothing.
use Prim.Native.Nat.{ℕ, zero, suc, ◌+◌, ◌<◌, ◌≤◌}
use mathlib.Core.Bool.{Bool, true, false, cond}
use mathlib.Core.List.{List, [], ◌∷◌, ◌++◌}
use mathlib.Core.Path.{◌≡◌, refl, sym, ap, ◌∙◌, subst}
use native.Mathlib.Omega.{arith}
use lib.Dec.{leb}
use lib.ListN.{length, get_or}
use borrow.Author.Tests.{lt-leb, leb-false}
use Rattle.manual.specs.declared.Register.{Register}
use Rattle.sequences.specs.declared.access.Access.{Access}
use Rattle.sequences.specs.declared.access.Access.TheVariants.{Read, Write, Send, Receive, Done}
use Rattle.sequences.specs.declared.sequence.Sequence.{Sequence}
use Rattle.machine.specs.declared.transfer.Stage.{Stage}
use Rattle.machine.specs.declared.transfer.Stage.TheVariants.{Space, Command, Sending, Send as SendPhase, Receiving}
use Rattle.machine.specs.declared.transfer.Stage.TheVariants.{Receive as ReceivePhase, Recovery, Ended}
use Rattle.machine.specs.declared.transfer.Work.{Work}
use Rattle.machine.specs.Poll.{poll_access}
use Rattle.sequences.specs.Recovery.{recovery_access}
use Rattle.machine.specs.Transfer.{at, due_access, resumed}
use Rattle.runs.specs.Run.{Logged, code_of, value_of, uses_of, answer_of, received_after, halted, times, State, after_access, step, run}
use Rattle.runs.proofs.PlainLaws.{kind, poll_plain, recovery_plain}
use Rattle.runs.proofs.RunLaws.{step_log, run_log}

-- the accesses made: which register, read or written
abbrev pub codes : List Logged → List ℕ
codes [] = []
codes (a ∷ l) = a.at ∷ codes l

codes_last : (l : List Logged) (a : Logged) → codes (l ++ (a ∷ [])) ≡ codes l ++ (a.at ∷ [])
codes_last [] a = refl
codes_last (b ∷ l) a = ap (λ (x : List ℕ). b.at ∷ x) (codes_last l a)

module _ {M : Type 0} (next : M → Access) (resume : M → ℕ → M) where
  -- the same machine, answers used and registers accessed, in order
  pub record SameCourse (s u : State M) : Type 0 where
    pub machine : s.machine ≡ u.machine
    pub used : s.used ≡ u.used
    pub accessed : codes s.log ≡ codes u.log

  -- a machine that does not look at the words that it receives
  abbrev pub Blind : Type 0
  Blind = (m : M) (i v w : ℕ) → next m ≡ Receive i → resume m v ≡ resume m w

  module _ (blind : Blind) (x y : List ℕ) (same_length : length x ≡ length y) (w₁ w₂ : List ℕ → ℕ → ℕ) where
    -- where a register is read, the scripts have the same answer; where a word is received, any
    abbrev pub SameReads : State M → Type 0
    SameReads s = (g : Register) → next s.machine ≡ Read g → get_or x s.used 0 ≡ get_or y s.used 0

    same_cond : (t : Bool) (s u s' u' : State M) → SameCourse s u → SameCourse s' u' → SameCourse (cond t s s') (cond t u u')
    same_cond true s u s' u' h k = h
    same_cond false s u s' u' h k = k

    told : (a : Access) (m : M) (n : ℕ) → next m ≡ a → ((g : Register) → next m ≡ Read g → get_or x n 0 ≡ get_or y n 0)
        → resume m (answer_of a (get_or x n 0)) ≡ resume m (answer_of a (get_or y n 0))
    told (Read g) m n e h = ap (resume m) (h g e)
    told (Write g v) m n e h = refl
    told (Send i) m n e h = refl
    told (Receive i) m n e h = blind m i (get_or x n 0) (get_or y n 0) e
    told (Done z) m n e h = refl

    same_step : (m : M) (n : ℕ) (l₁ l₂ : List Logged) (r₁ r₂ : List ℕ) → codes l₁ ≡ codes l₂
        → ((g : Register) → next m ≡ Read g → get_or x n 0 ≡ get_or y n 0)
        → SameCourse (step next resume w₁ x (record { machine = m; used = n; log = l₁; received = r₁ }))
        (step next resume w₂ y (record { machine = m; used = n; log = l₂; received = r₂ }))
    unfolding step after_access
    same_step m n l₁ l₂ r₁ r₂ h k =
        rw (ap (halted (next m) n) same_length)
        (same_cond (halted (next m) n (length y)) _ _ _ _ (record { machine = refl; used = refl; accessed = h })
        (record {
          machine = told (next m) m n refl k;
          used = refl;
          accessed = codes_last l₁ _ ∙ ap (λ (z : List ℕ). z ++ (code_of (next m) ∷ [])) h ∙ sym (codes_last l₂ _);
        }))

    step_same : (s u : State M) → SameCourse s u → SameReads s → SameCourse (step next resume w₁ x s) (step next resume w₂ y u)
    step_same s u h k =
        subst
        (λ (m : M).
        SameCourse (step next resume w₁ x s)
        (step next resume w₂ y (record { machine = m; used = u.used; log = u.log; received = u.received })))
        h.machine
        (subst
        (λ (n : ℕ).
        SameCourse (step next resume w₁ x s)
        (step next resume w₂ y (record { machine = s.machine; used = n; log = u.log; received = u.received })))
        h.used
        (same_step s.machine s.used s.log u.log s.received u.received h.accessed k))

    -- CONTROL DOES NOT DEPEND ON THE DATA: whatever words are sent and whatever words come in, the same accesses follow
    pub same_run : (n : ℕ) (s u : State M) → SameCourse s u → ((k : ℕ) → k < n → SameReads (run next resume w₁ x k s))
        → SameCourse (run next resume w₁ x n s) (run next resume w₂ y n u)
    unfolding times
    same_run zero s u h k = h
    same_run (suc n) s u h k =
        same_run n (step next resume w₁ x s) (step next resume w₂ y u) (step_same s u h (k 0 (omega arith)))
        (λ j (l : j < n). k (suc j) (omega arith))

  module _ (words : List ℕ → ℕ → ℕ) where
    -- answers are used one after the other
    step_used : (script : List ℕ) (s : State M) → s.used ≤ (step next resume words script s).used
    unfolding step after_access
    step_used script s = by_test (halted (next s.machine) s.used (length script))
      where
        by_test : (t : Bool) → s.used ≤ (cond t s (after_access next resume words script (next s.machine) s)).used
        by_test true = omega arith
        by_test false = omega arith

    run_used : (script : List ℕ) (n : ℕ) (s : State M) → s.used ≤ (run next resume words script n s).used
    unfolding times
    run_used script zero s = omega arith
    run_used script (suc n) s = omega (arith, step_used script s, run_used script n (step next resume words script s))

    module _ (x y : List ℕ) (k : ℕ) (hx : k < length x) (hy : k < length y) (agree : (i : ℕ) → i < k → get_or x i 0 ≡ get_or y i 0) where
      -- one access that leaves the answers from k on untouched
      step_agrees : (a : Access) (m : M) (n : ℕ) (l : List Logged) (r : List ℕ) → next m ≡ a
          → (step next resume words x (record { machine = m; used = n; log = l; received = r })).used ≤ k
          → step next resume words x (record { machine = m; used = n; log = l; received = r })
          ≡ step next resume words y (record { machine = m; used = n; log = l; received = r })
      unfolding step after_access
      step_agrees (Read g) m n l r e h =
          let u : n ≤ k = omega (arith, step_used x (record { machine = m; used = n; log = l; received = r })) in
          let fx = lt-leb (length x) n (omega arith) in
          let fy = lt-leb (length y) n (omega arith) in
          let below : n + 1 ≤ k = rw (e, fx) at h in
          rw (e, fx, fy, agree n (omega arith))
      step_agrees (Write g v) m n l r e h = rw e
      step_agrees (Send i) m n l r e h = rw e
      step_agrees (Receive i) m n l r e h =
          let u : n ≤ k = omega (arith, step_used x (record { machine = m; used = n; log = l; received = r })) in
          let fx = lt-leb (length x) n (omega arith) in
          let fy = lt-leb (length y) n (omega arith) in
          let below : n + 1 ≤ k = rw (e, fx) at h in
          rw (e, fx, fy, agree n (omega arith))
      step_agrees (Done z) m n l r e h = rw e

      -- WHAT A RUN DOES BEFORE IT NEEDS ANSWER k does not depend on the answers from k on
      pub run_agrees : (n : ℕ) (s : State M) → (run next resume words x n s).used ≤ k
          → run next resume words x n s ≡ run next resume words y n s
      unfolding times
      run_agrees zero s h = refl
      run_agrees (suc n) s h =
          let s' = step next resume words x s in
          run_agrees n s' h
          ∙ ap (times (step next resume words y) n)
          (step_agrees (next s.machine) s.machine s.used s.log s.received refl (omega (arith, run_used x n s')))

    -- A LONGER SCRIPT: what a run does with the answers it has, it does with more of them, too
    module _ (x y : List ℕ) (more : length x ≤ length y) (agree : (i : ℕ) → i < length x → get_or x i 0 ≡ get_or y i 0) where
      step_longer : (a : Access) (m : M) (n : ℕ) (l : List Logged) (r : List ℕ) → next m ≡ a
          → length l < length (step next resume words x (record { machine = m; used = n; log = l; received = r })).log
          → step next resume words x (record { machine = m; used = n; log = l; received = r })
          ≡ step next resume words y (record { machine = m; used = n; log = l; received = r })
      unfolding step after_access
      step_longer (Read g) m n l r e h = by_test (leb (length x) n) refl
        where
          by_test : (b : Bool) → leb (length x) n ≡ b
              → step next resume words x (record { machine = m; used = n; log = l; received = r })
              ≡ step next resume words y (record { machine = m; used = n; log = l; received = r })
          by_test true t = absurd (let z : length l < length l = rw (e, t) at h in omega arith)
          by_test false t = let u = leb-false (length x) n t in rw (e, t, lt-leb (length y) n (omega arith), agree n (omega arith))
      step_longer (Write g v) m n l r e h = rw e
      step_longer (Send i) m n l r e h = rw e
      step_longer (Receive i) m n l r e h = by_test (leb (length x) n) refl
        where
          by_test : (b : Bool) → leb (length x) n ≡ b
              → step next resume words x (record { machine = m; used = n; log = l; received = r })
              ≡ step next resume words y (record { machine = m; used = n; log = l; received = r })
          by_test true t = absurd (let z : length l < length l = rw (e, t) at h in omega arith)
          by_test false t = let u = leb-false (length x) n t in rw (e, t, lt-leb (length y) n (omega arith), agree n (omega arith))
      step_longer (Done z) m n l r e h = rw e

      pub run_longer : (n : ℕ) (s : State M) → length (run next resume words x n s).log ≡ length s.log + n
          → run next resume words x n s ≡ run next resume words y n s
      unfolding times
      run_longer zero s h = refl
      run_longer (suc n) s h =
          let s' = step next resume words x s in
          let one = step_log next resume words x s in
          let rest = run_log next resume words x n s' in
          run_longer n s' (omega (arith, one, rest, h))
          ∙ ap (times (step next resume words y) n)
          (step_longer (next s.machine) s.machine s.used s.log s.received refl (omega (arith, one, rest, h)))

  -- THE SAME WORDS SENT give the same run
  module _ (script : List ℕ) (w₁ w₂ : List ℕ → ℕ → ℕ) (same : (rs : List ℕ) (i : ℕ) → w₁ rs i ≡ w₂ rs i) where
    value_words : (rs : List ℕ) (a : Access) (v : ℕ) → value_of (w₁ rs) a v ≡ value_of (w₂ rs) a v
    value_words rs (Read g) v = refl
    value_words rs (Write g x) v = refl
    value_words rs (Send i) v = same rs i
    value_words rs (Receive i) v = refl
    value_words rs (Done e) v = refl

    step_words : (s : State M) → step next resume w₁ script s ≡ step next resume w₂ script s
    unfolding step after_access
    step_words s =
        let a = next s.machine in
        let v = get_or script s.used 0 in
        ap
        (λ (x : ℕ).
        cond (halted a s.used (length script)) s
        (record {
          machine = resume s.machine (answer_of a v);
          used = s.used + uses_of a;
          log = s.log ++ (record { at = code_of a; value = x } ∷ []);
          received = received_after a v s.received;
        }))
        (value_words s.received a v)

    pub run_words : (n : ℕ) (s : State M) → run next resume w₁ script n s ≡ run next resume w₂ script n s
    unfolding times
    run_words zero s = refl
    run_words (suc n) s = run_words n (step next resume w₁ script s) ∙ ap (times (step next resume w₂ script) n) (step_words s)

-- A TRANSFER DOES NOT LOOK at the words that it receives
not_received : {A : Type 0} (a : Access) (i : ℕ) → kind a ≤ 1 → a ≡ Receive i → A
not_received a i h e = absurd (let q : kind a ≡ 3 = ap kind e in omega arith)

blind_in : (p : Stage) (w : Work) (r : Sequence) (i v u : ℕ) → due_access (at p w r) ≡ Receive i
    → resumed (at p w r) v ≡ resumed (at p w r) u
unfolding due_access resumed
blind_in (Space q) w r i v u e = not_received (poll_access q) i (poll_plain q) e
blind_in Command w r i v u e = refl
blind_in (Sending q) w r i v u e = not_received (poll_access q) i (poll_plain q) e
blind_in SendPhase w r i v u e = refl
blind_in (Receiving q) w r i v u e = not_received (poll_access q) i (poll_plain q) e
blind_in ReceivePhase w r i v u e = refl
blind_in (Recovery d) w r i v u e = not_received (recovery_access r) i (recovery_plain r) e
blind_in (Ended x) w r i v u e = refl

pub transfer_blind : Blind due_access resumed
transfer_blind t i v u e = blind_in t.phase t.work t.reset i v u e
