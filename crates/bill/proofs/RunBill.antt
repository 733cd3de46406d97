-- What a transfer costs: a run that ended Ok has made 4 accesses, 4 for each word either way, and 3 for each poll that was not ready.
-- Assumes nothing.
use Rattle.std.proofs.lemmas.Bool.{cond_both}
use Prim.Native.Nat.{ℕ, ◌+◌, ◌*◌}
use mathlib.Core.Bool.{Bool, true, false, cond}
use mathlib.Core.List.{List, [], ◌∷◌}
use mathlib.Core.Path.{◌≡◌, refl}
use native.Mathlib.Omega.{arith}
use lib.Dec.{ltb}
use lib.ListN.{length, length-append}
use Rattle.words.specs.declared.transaction.Direction.TheVariants.{Tx, Rx}
use Rattle.sequences.specs.Access.{Ending}
use Rattle.std.specs.Prelude.{Ok, Err}
use Rattle.sequences.specs.declared.driver.Lpspi.{Lpspi}
use Rattle.sequences.specs.declared.sequence.Sequence.{Sequence}
use Rattle.sequences.specs.Sequence.{too_deep}
use Rattle.sequences.specs.Recovery.{recovery_after, recovered}
use Rattle.machine.specs.declared.poll.Polled.{Polled}
use Rattle.machine.specs.declared.poll.Poll.{Poll}
use Rattle.machine.specs.declared.poll.Poll.TheVariants.{Status, Sizes, Counts}
use Rattle.machine.specs.declared.poll.Polled.TheVariants.{Ready, Unready}
use Rattle.machine.specs.declared.transfer.Stage.{Stage}
use Rattle.machine.specs.declared.transfer.Stage.TheVariants.{Space, Command, Sending, Send, Receiving, Receive, Recovery, Ended}
use Rattle.machine.specs.declared.transfer.Transfer.{Transfer}
use Rattle.machine.specs.declared.transfer.Work.{Work}
use Rattle.machine.specs.Poll.{failed, ready}
use Rattle.machine.specs.Transfer.{at, start_transfer, send_turn, receive_turn, one_sent, one_received}
use Rattle.machine.specs.Transfer.{space_by, sending_by, receiving_by, due_access, resumed}
use Rattle.runs.specs.Run.{State, start, halted, answer_of, ending_of, run}
use Rattle.runs.proofs.Places.{Standing, counted_up, placed_run, start_placed, in_order}
use Rattle.bill.specs.Unready.{unready_in, unready_polls}
use Rattle.bill.proofs.UnreadyLaws.{Holding, Kept, entry, ok_done, ok_keeps}

-- reads of a poll that were made
abbrev reads : Poll → ℕ
reads Status = 0
reads Sizes = 1
reads (Counts x) = 2

-- a poll and TCR, and a poll and an access for each word
abbrev cost : Work → ℕ
cost w = 4 + 4 * (w.sent + w.received)

abbrev Final : Ending → Work → ℕ → ℕ → Type 0
Final (Ok u) w made n = made ≡ cost w + 3 * n
Final (Err e) w made n = Unit {0}

-- `made` accesses and n unready polls brought the transfer where it stands; nothing is said once an error was met
abbrev Bill : Stage → Work → ℕ → ℕ → Type 0
Bill (Space p) w made n = made ≡ reads p + 3 * n
Bill Command w made n = made ≡ 3 + 3 * n
Bill (Sending p) w made n = made ≡ cost w + reads p + 3 * n
Bill Send w made n = made ≡ cost w + 3 + 3 * n
Bill (Receiving p) w made n = made ≡ cost w + reads p + 3 * n
Bill Receive w made n = made ≡ cost w + 3 + 3 * n
Bill (Recovery d) w made n = Unit {0}
Bill (Ended e) w made n = Final e w made n

abbrev Billed : Holding
Billed p w l n = Bill p w (length l) n

send_bill : (w : Work) (made n : ℕ) → made ≡ cost w + 3 * n → Bill (send_turn w) w made n
send_bill w made n h =
    cond_both (ltb w.sent w.send) (Sending Status) _ (λ q. Bill q w made n) (λ _. omega arith)
    (λ _. cond_both (ltb w.received w.receive) (Receiving Status) _ (λ q. Bill q w made n) (λ _. omega arith) (λ _. h))

receive_bill : (w : Work) (made n : ℕ) → made ≡ cost w + 3 * n → Bill (receive_turn w) w made n
receive_bill w made n h =
    cond_both (ltb w.received w.receive) (Receiving Status) _ (λ q. Bill q w made n) (λ _. omega arith)
    (λ _. cond_both (ltb w.sent w.send) (Sending Status) _ (λ q. Bill q w made n) (λ _. omega arith) (λ _. h))

-- the last read of a poll: ready, or one more that is not
space_bill : (t : Bool) (w : Work) (made n : ℕ) → made ≡ 2 + 3 * n → Bill (space_by (cond t Ready Unready)) w (made + 1) (n + cond t 0 1)
space_bill true w made n h = omega arith
space_bill false w made n h = omega arith

sending_bill : (t : Bool) (w : Work) (made n : ℕ) → made ≡ cost w + 2 + 3 * n
    → Bill (sending_by w (cond t Ready Unready)) w (made + 1) (n + cond t 0 1)
sending_bill true w made n h = omega arith
sending_bill false w made n h = receive_bill w (made + 1) (n + 1) (omega arith)

receiving_bill : (t : Bool) (w : Work) (made n : ℕ) → made ≡ cost w + 2 + 3 * n
    → Bill (receiving_by w (cond t Ready Unready)) w (made + 1) (n + cond t 0 1)
receiving_bill true w made n h = omega arith
receiving_bill false w made n h = send_bill w (made + 1) (n + 1) (omega arith)

-- the first: an error, or on; the second: an exponent over 4, or on
read_bill : (at : Polled → Stage) (w : Work) (made n : ℕ) (t : Bool) (p q : Polled) → Bill (at p) w (made + 1) (n + 0)
    → Bill (at q) w (made + 1) (n + 0) → Bill (at (cond t p q)) w (made + 1) (n + 0)
read_bill at w made n t p q g h = cond_both t p q (λ x. Bill (at x) w (made + 1) (n + 0)) (λ _. g) (λ _. h)

-- one access
bill_on : (p : Stage) (w : Work) (r : Sequence) (v made n used answers : ℕ) → halted (due_access (at p w r)) used answers ≡ false
    → Standing p w → Bill p w made n
    → Bill (resumed (at p w r) (answer_of (due_access (at p w r)) v)).phase
    (resumed (at p w r) (answer_of (due_access (at p w r)) v)).work (made + 1) (n + unready_in p v)
unfolding due_access resumed
bill_on (Space Status) w r v made n used answers l t h = read_bill space_by w made n (failed Tx v) _ _ tt (omega arith)
bill_on (Space Sizes) w r v made n used answers l t h = read_bill space_by w made n (too_deep v) _ _ tt (omega arith)
bill_on (Space (Counts x)) w r v made n used answers l t h = space_bill (ready Tx x v) w made n h
bill_on Command w r v made n used answers l t h = send_bill w (made + 1) (n + 0) (omega arith)
bill_on (Sending Status) w r v made n used answers l t h = read_bill (sending_by w) w made n (failed Tx v) _ _ tt (omega arith)
bill_on (Sending Sizes) w r v made n used answers l t h = read_bill (sending_by w) w made n (too_deep v) _ _ tt (omega arith)
bill_on (Sending (Counts x)) w r v made n used answers l t h = sending_bill (ready Tx x v) w made n h
bill_on Send w r v made n used answers l t h = send_bill (one_sent w) (made + 1) (n + 0) (omega (arith, counted_up w.sent w.send t))
bill_on (Receiving Status) w r v made n used answers l t h = read_bill (receiving_by w) w made n (failed Rx v) _ _ tt (omega arith)
bill_on (Receiving Sizes) w r v made n used answers l t h = read_bill (receiving_by w) w made n (too_deep v) _ _ tt (omega arith)
bill_on (Receiving (Counts x)) w r v made n used answers l t h = receiving_bill (ready Rx x v) w made n h
bill_on Receive w r v made n used answers l t h =
    receive_bill (one_received w) (made + 1) (n + 0) (omega (arith, counted_up w.received w.receive t))
bill_on (Recovery d) w r v made n used answers l t h =
    cond_both (recovered (recovery_after r (answer_of (due_access (at (Recovery d) w r)) v))) _ _ (λ q. Bill q w (made + 1) (n + 0))
    (λ _. tt) (λ _. tt)
bill_on (Ended e) w r v made n used answers l t h = absurd (grind arith)

billed_on : Kept Billed
billed_on t l value v n used answers go turn h =
    rw (length-append l (entry t value ∷ [])) (bill_on t.phase t.work t.reset v (length l) n used answers go turn h)

module _ (script : List ℕ) (words : List ℕ → ℕ → ℕ) (d : Lpspi) (command budget : ℕ) where
  -- AN OK RUN of so many words to send and to receive makes exactly so many accesses
  pub ok_exactly : (send receive : ℕ)
      → ending_of (due_access (run due_access resumed words script budget (start (start_transfer d command send receive))).machine)
      ≡ Ok tt
      → length (run due_access resumed words script budget (start (start_transfer d command send receive))).log
      ≡ 4 + 4 * send + 4 * receive + 3 * unready_polls script words budget (start (start_transfer d command send receive))
  ok_exactly send receive e =
      let s : State Transfer = start (start_transfer d command send receive) in
      let u : State Transfer = run due_access resumed words script budget s in
      let placed = start_placed d command send receive in
      let all = (in_order send receive u (placed_run send receive words script budget s placed)).all (ok_done (due_access u.machine) e) in
      let count = ok_keeps script words send receive Billed billed_on budget s placed refl e in
      omega (arith, all, count)
