-- w off the log: a run that ended Ok has as many unready polls as its log has reads of FSR that a read of SR follows.
-- Assumes nothing.
use Rattle.std.proofs.lemmas.Bool.{cond_both}
use Prim.Native.Nat.{ℕ, ◌+◌, ◌*◌, ◌<◌}
use mathlib.Core.Bool.{Bool, true, false, cond}
use mathlib.Core.List.{List, [], ◌∷◌, ◌++◌}
use mathlib.Core.Path.{◌≡◌, refl, sym, ap, ◌∙◌}
use native.Mathlib.Nat.{add-zero, zero-add}
use native.Mathlib.Omega.{arith}
use lib.Dec.{eqb, ltb}
use lib.ListN.{length, drop}
use borrow.Author.Tests.{lt-ltb}
use Rattle.manual.specs.declared.Register.TheVariants.{FSR}
use Rattle.manual.specs.Manual.{offset_of}
use Rattle.words.specs.declared.transaction.Direction.TheVariants.{Tx, Rx}
use Rattle.sequences.specs.Access.{Ending}
use Rattle.std.specs.Prelude.{Ok, Err}
use Rattle.sequences.specs.declared.driver.Lpspi.{Lpspi}
use Rattle.sequences.specs.declared.sequence.Sequence.{Sequence}
use Rattle.sequences.specs.Sequence.{too_deep}
use Rattle.sequences.specs.Recovery.{recovery_after, recovered}
use Rattle.machine.specs.declared.poll.Polled.{Polled}
use Rattle.machine.specs.declared.poll.Poll.{Poll}
use Rattle.machine.specs.declared.poll.Poll.TheVariants.{Status, Sizes, Counts}
use Rattle.machine.specs.declared.poll.Polled.TheVariants.{Ready, Unready}
use Rattle.machine.specs.declared.transfer.Stage.{Stage}
use Rattle.machine.specs.declared.transfer.Stage.TheVariants.{Space, Command, Sending, Send, Receiving, Receive, Recovery, Ended}
use Rattle.machine.specs.declared.transfer.Transfer.{Transfer}
use Rattle.machine.specs.declared.transfer.Work.{Work}
use Rattle.machine.specs.Poll.{failed, ready}
use Rattle.machine.specs.Transfer.{at, start_transfer, send_turn, receive_turn, one_sent, one_received}
use Rattle.machine.specs.Transfer.{space_by, sending_by, receiving_by, due_access, resumed}
use Rattle.runs.specs.Run.{Logged, State, start, flat, log_over, halted, code_of, answer_of, ending_of, run}
use Rattle.runs.proofs.Places.{Standing, start_placed}
use Rattle.bill.specs.Unready.{unready_in, unready_polls}
use Rattle.bill.specs.Listed.{again, again_after, polls_again}
use Rattle.bill.proofs.UnreadyLaws.{Holding, Kept, entry, ok_keeps}

-- the same over a run's log, and whether its last access read FSR
abbrev again_in : Bool → List Logged → ℕ
again_in counts [] = 0
again_in counts (a ∷ l) = again counts a.at + again_in (eqb a.at (offset_of FSR)) l

abbrev last_counts : Bool → List Logged → Bool
last_counts counts [] = counts
last_counts counts (a ∷ l) = last_counts (eqb a.at (offset_of FSR)) l

flat_again : (counts : Bool) (l : List Logged) (rest : List ℕ) → again_after counts (length l) (flat l ++ rest) ≡ again_in counts l
flat_again counts [] rest = refl
flat_again counts (a ∷ l) rest = ap (λ n. again counts a.at + n) (flat_again (eqb a.at (offset_of FSR)) l rest)

again_on : (counts : Bool) (l : List Logged) (a : Logged)
    → again_in counts (l ++ (a ∷ [])) ≡ again_in counts l + again (last_counts counts l) a.at
again_on counts [] a = add-zero (again counts a.at) ∙ sym (zero-add (again counts a.at))
again_on counts (b ∷ l) a = ap (λ n. again counts b.at + n) (again_on (eqb b.at (offset_of FSR)) l a) ∙ omega arith

last_on : (counts : Bool) (l : List Logged) (a : Logged) → last_counts counts (l ++ (a ∷ [])) ≡ eqb a.at (offset_of FSR)
last_on counts [] a = refl
last_on counts (b ∷ l) a = last_on (eqb b.at (offset_of FSR)) l a

-- n unready polls; behind `made` of them another has begun, behind the last one not yet where the last access read its counts
abbrev Polling : Poll → Bool → ℕ → ℕ → Type 0
Polling Status last made n = n ≡ made + cond last 1 0
Polling Sizes last made n = n ≡ made
Polling (Counts x) last made n = n ≡ made

abbrev Final : Ending → ℕ → ℕ → Type 0
Final (Ok u) made n = n ≡ made
Final (Err e) made n = Unit {0}

abbrev Shown : Stage → Bool → ℕ → ℕ → Type 0
Shown (Space p) last made n = Polling p last made n
Shown Command last made n = n ≡ made
Shown (Sending p) last made n = Polling p last made n
Shown Send last made n = n ≡ made
Shown (Receiving p) last made n = Polling p last made n
Shown Receive last made n = n ≡ made
Shown (Recovery d) last made n = Unit {0}
Shown (Ended e) last made n = Final e made n

-- behind a word, or TCR
send_shown : (w : Work) (made n : ℕ) → n ≡ made → Shown (send_turn w) false made n
send_shown w made n h =
    cond_both (ltb w.sent w.send) (Sending Status) _ (λ q. Shown q false made n) (λ _. omega arith)
    (λ _. cond_both (ltb w.received w.receive) (Receiving Status) _ (λ q. Shown q false made n) (λ _. omega arith) (λ _. h))

receive_shown : (w : Work) (made n : ℕ) → n ≡ made → Shown (receive_turn w) false made n
receive_shown w made n h =
    cond_both (ltb w.received w.receive) (Receiving Status) _ (λ q. Shown q false made n) (λ _. omega arith)
    (λ _. cond_both (ltb w.sent w.send) (Sending Status) _ (λ q. Shown q false made n) (λ _. omega arith) (λ _. h))

-- behind an unready poll: its side has words left, so one more poll follows
send_waits : (w : Work) (made n : ℕ) → w.sent < w.send → n ≡ made + 1 → Shown (receive_turn w) true made n
send_waits w made n left h =
    rw (lt-ltb w.sent w.send left)
    (cond_both (ltb w.received w.receive) (Receiving Status) (Sending Status) (λ q. Shown q true made n) (λ _. h) (λ _. h))

receive_waits : (w : Work) (made n : ℕ) → w.received < w.receive → n ≡ made + 1 → Shown (send_turn w) true made n
receive_waits w made n left h =
    rw (lt-ltb w.received w.receive left)
    (cond_both (ltb w.sent w.send) (Sending Status) (Receiving Status) (λ q. Shown q true made n) (λ _. h) (λ _. h))

-- the first read of a poll: an error, or on; the second: an exponent over 4, or on
read_shown : (at : Polled → Stage) (made n : ℕ) (t : Bool) (p q : Polled) → Shown (at p) false made n → Shown (at q) false made n
    → Shown (at (cond t p q)) false made n
read_shown at made n t p q g h = cond_both t p q (λ x. Shown (at x) false made n) (λ _. g) (λ _. h)

space_last : (t : Bool) (made n : ℕ) → n ≡ made → Shown (space_by (cond t Ready Unready)) true (made + 0) (n + cond t 0 1)
space_last true made n h = omega arith
space_last false made n h = omega arith

sending_last : (t : Bool) (w : Work) (made n : ℕ) → w.sent < w.send → n ≡ made
    → Shown (sending_by w (cond t Ready Unready)) true (made + 0) (n + cond t 0 1)
sending_last true w made n left h = omega arith
sending_last false w made n left h = send_waits w (made + 0) (n + 1) left (omega arith)

receiving_last : (t : Bool) (w : Work) (made n : ℕ) → w.received < w.receive → n ≡ made
    → Shown (receiving_by w (cond t Ready Unready)) true (made + 0) (n + cond t 0 1)
receiving_last true w made n left h = omega arith
receiving_last false w made n left h = receive_waits w (made + 0) (n + 1) left (omega arith)

-- one access
shown_on : (p : Stage) (w : Work) (r : Sequence) (v made n used answers : ℕ) (last : Bool)
    → halted (due_access (at p w r)) used answers ≡ false → Standing p w
    → Shown p last made n
    → Shown (resumed (at p w r) (answer_of (due_access (at p w r)) v)).phase (eqb (code_of (due_access (at p w r))) (offset_of FSR))
    (made + again last (code_of (due_access (at p w r)))) (n + unready_in p v)
unfolding due_access resumed
shown_on (Space Status) w r v made n used answers last go t h = read_shown space_by _ _ (failed Tx v) _ _ tt (rw add-zero h)
shown_on (Space Sizes) w r v made n used answers last go t h = read_shown space_by _ _ (too_deep v) _ _ tt (omega arith)
shown_on (Space (Counts x)) w r v made n used answers last go t h = space_last (ready Tx x v) made n h
shown_on Command w r v made n used answers last go t h = send_shown w (made + 0) (n + 0) (omega arith)
shown_on (Sending Status) w r v made n used answers last go t h = read_shown (sending_by w) _ _ (failed Tx v) _ _ tt (rw add-zero h)
shown_on (Sending Sizes) w r v made n used answers last go t h = read_shown (sending_by w) _ _ (too_deep v) _ _ tt (omega arith)
shown_on (Sending (Counts x)) w r v made n used answers last go t h = sending_last (ready Tx x v) w made n t h
shown_on Send w r v made n used answers last go t h = send_shown (one_sent w) (made + 0) (n + 0) (omega arith)
shown_on (Receiving Status) w r v made n used answers last go t h = read_shown (receiving_by w) _ _ (failed Rx v) _ _ tt (rw add-zero h)
shown_on (Receiving Sizes) w r v made n used answers last go t h = read_shown (receiving_by w) _ _ (too_deep v) _ _ tt (omega arith)
shown_on (Receiving (Counts x)) w r v made n used answers last go t h = receiving_last (ready Rx x v) w made n t h
shown_on Receive w r v made n used answers last go t h = receive_shown (one_received w) (made + 0) (n + 0) (omega arith)
shown_on (Recovery d) w r v made n used answers last go t h =
    let code = code_of (due_access (at (Recovery d) w r)) in
    cond_both (recovered (recovery_after r (answer_of (due_access (at (Recovery d) w r)) v))) _ _
    (λ q. Shown q (eqb code (offset_of FSR)) (made + again last code) (n + 0)) (λ _. tt) (λ _. tt)
shown_on (Ended e) w r v made n used answers last go t h = absurd (grind arith)

abbrev Listed : Holding
Listed p w l n = Shown p (last_counts false l) (again_in false l) n

listed_on : Kept Listed
listed_on t l value v n used answers go turn h =
    rw (again_on false l (entry t value), last_on false l (entry t value))
    (shown_on t.phase t.work t.reset v (again_in false l) n used answers (last_counts false l) go turn h)

module _ (script : List ℕ) (words : List ℕ → ℕ → ℕ) (d : Lpspi) (command budget : ℕ) where
  -- AN OK RUN: its unready polls, counted off its log, which lies over the front of an older one
  pub ok_listed : (send receive : ℕ) (old : List ℕ)
      → ending_of (due_access (run due_access resumed words script budget (start (start_transfer d command send receive))).machine)
      ≡ Ok tt
      → unready_polls script words budget (start (start_transfer d command send receive))
      ≡ (let l = (run due_access resumed words script budget (start (start_transfer d command send receive))).log in
      polls_again (length l) (log_over old l))
  ok_listed send receive old e =
      let s : State Transfer = start (start_transfer d command send receive) in
      let l : List Logged = (run due_access resumed words script budget s).log in
      ok_keeps script words send receive Listed listed_on budget s (start_placed d command send receive) refl e
      ∙ sym (flat_again false l (drop (2 * length l) old))
