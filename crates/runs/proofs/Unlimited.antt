-- How many accesses are enough for a transfer and for a flush, whatever the script: from then on the run is the one with no limit on
-- accesses. Assumes nothing.
use Prim.Native.Nat.{ℕ, zero, suc, ◌+◌, ◌*◌, ◌<◌, ◌≤◌, max}
use mathlib.Core.Bool.{Bool, true, false, cond}
use mathlib.Core.List.{List, [], ◌∷◌}
use mathlib.Core.Path.{◌≡◌, refl, ap}
use native.Mathlib.Numerals.{add-one}
use native.Mathlib.Omega.{arith}
use lib.Dec.{leb, ltb}
use lib.ListN.{length, get_or, drop}
use borrow.Author.Tests.{ltb-true, ltb-false, le-leb}
use Rattle.words.specs.declared.transaction.Direction.{Direction}
use Rattle.words.specs.declared.transaction.LpspiError.TheVariants.{Fifo}
use Rattle.std.specs.Prelude.{Ok, Err}
use Rattle.sequences.specs.declared.access.RunError.TheVariants.{Driver}
use Rattle.machine.specs.declared.flush.Flush.{Flush}
use Rattle.machine.specs.declared.flush.Flush.TheVariants.{Status, Sizes, Counts, Ended as FlushEnded}
use Rattle.machine.specs.declared.poll.Poll.TheVariants.{Status as PollStatus, Sizes as PollSizes, Counts as PollCounts}
use Rattle.sequences.specs.declared.sequence.Move.{Move}
use Rattle.sequences.specs.declared.sequence.Move.TheVariants.{Keep, KeepClock, Look, Wait, WaitClock, Size, Sizes as SizesMove, Arrived}
use Rattle.sequences.specs.declared.sequence.Move.TheVariants.{Modify, Set, Write as WriteMove, Put, End}
use Rattle.sequences.specs.declared.sequence.Sequence.{Sequence}
use Rattle.machine.specs.declared.transfer.Stage.{Stage}
use Rattle.machine.specs.declared.transfer.Stage.TheVariants.{Space, Command, Sending, Send, Receiving, Receive, Recovery, Ended}
use Rattle.machine.specs.declared.transfer.Work.{Work}
use Rattle.machine.specs.declared.transfer.Transfer.{Transfer}
use Rattle.machine.specs.Flush.{flush_access, flushed}
use Rattle.sequences.specs.Sequence.{move_access, moved, onward}
use Rattle.sequences.specs.Recovery.{recovery, recovery_move}
use Rattle.machine.specs.Transfer.{at, send_turn, one_sent, after_recovery, due_access, resumed}
use Rattle.runs.specs.Run.{State, ended, uses_of, run}
use Rattle.runs.specs.Unlimited.{Unlimited}
use Rattle.runs.proofs.RunUnlimited.{run_unlimited}

-- THE RECOVERY'S TABLE

abbrev writes : Move → Bool
writes (Keep k) = false
writes KeepClock = false
writes (Look k) = false
writes Wait = false
writes (WaitClock c) = false
writes (Size k) = false
writes SizesMove = false
writes Arrived = false
writes (Modify c) = true
writes (Set c) = true
writes (WriteMove k w) = true
writes (Put k) = true
writes End = false

-- the writes before the next read
abbrev leading : List Move → ℕ
leading [] = 0
leading (m ∷ l) = cond (writes m) (suc (leading l)) 0

-- the most writes in a row
abbrev most_leading : List Move → ℕ
most_leading [] = 0
most_leading (m ∷ l) = max (leading (m ∷ l)) (most_leading l)

leading_most : (l : List Move) (i : ℕ) → leading (drop i l) ≤ most_leading l
leading_most [] zero = omega arith
leading_most [] (suc i) = omega arith
leading_most (m ∷ l) zero = omega arith
leading_most (m ∷ l) (suc i) = omega (arith, leading_most l i)

recovery_leading : (i : ℕ) → leading (drop i recovery) ≤ 9
recovery_leading i = leading_most recovery i

-- at a write there is one more before the next read than after it
leading_next : (l : List Move) (i : ℕ) → i < length l → writes (get_or l i (recovery_move 27)) ≡ true
    → leading (drop i l) ≡ suc (leading (drop (suc i) l))
leading_next [] i h e = absurd (omega arith)
leading_next (m ∷ l) zero h e = rw e
leading_next (m ∷ l) (suc i) h e = leading_next l i (omega arith) e

-- THE WRITES OF A TRANSFER THAT ARE DUE IN A ROW

abbrev pending_in : Stage → ℕ → ℕ
pending_in (Space p) place = 0
pending_in Command place = 1
pending_in (Sending p) place = 0
pending_in Send place = 1
pending_in (Receiving p) place = 0
pending_in Receive place = 0
pending_in (Recovery d) place = 1 + leading (drop place recovery)
pending_in (Ended e) place = 0

pending : Transfer → ℕ
pending t = pending_in t.phase t.reset.place

pending_most : (p : Stage) (place : ℕ) → pending_in p place ≤ 10
pending_most (Space p) place = omega arith
pending_most Command place = omega arith
pending_most (Sending p) place = omega arith
pending_most Send place = omega arith
pending_most (Receiving p) place = omega arith
pending_most Receive place = omega arith
pending_most (Recovery d) place = omega (arith, recovery_leading place)
pending_most (Ended e) place = omega arith

-- no write is due where a turn begins
turn_reads : (w : Work) (place : ℕ) → pending_in (send_turn w) place ≡ 0
turn_reads w place = by_test (ltb w.sent w.send) (ltb w.received w.receive)
  where
    by_test : (t u : Bool) → pending_in (cond t (Sending PollStatus) (cond u (Receiving PollStatus) (Ended (Ok tt)))) place ≡ 0
    by_test true u = refl
    by_test false true = refl
    by_test false false = refl

-- a write of the recovery
recovery_write : (d : Direction) (r : Sequence) → writes (recovery_move r.place) ≡ true
    → pending_in (after_recovery d (onward r)) (onward r).place < 1 + leading (drop r.place recovery)
recovery_write d r e = by_place (ltb r.place 27) refl
  where
    by_done : (t : Bool) → r.place < 27
        → pending_in (cond t (Ended (Err (Driver (Fifo d)))) (Recovery d)) (r.place + 1) < 1 + leading (drop r.place recovery)
    by_done true h = omega arith
    by_done false h =
        let fact = leading_next recovery r.place h e in
        rw (add-one r.place) (omega (arith, fact))

    by_place : (t : Bool) → ltb r.place 27 ≡ t
        → pending_in (cond (leb 27 (cond t (r.place + 1) r.place)) (Ended (Err (Driver (Fifo d)))) (Recovery d))
        (cond t (r.place + 1) r.place)
        < 1 + leading (drop r.place recovery)
    by_place true t = by_done (leb 27 (r.place + 1)) (ltb-true r.place 27 t)
    by_place false t = rw (le-leb 27 r.place (ltb-false r.place 27 t)) (omega arith)

recovery_fewer : (m : Move) (d : Direction) (r : Sequence) → recovery_move r.place ≡ m → ended (move_access m r) ≡ false
    → uses_of (move_access m r) ≡ 0
    → pending_in (after_recovery d (moved m r 0)) (moved m r 0).place < 1 + leading (drop r.place recovery)
recovery_fewer (Keep k) d r em e u = absurd (omega arith)
recovery_fewer KeepClock d r em e u = absurd (omega arith)
recovery_fewer (Look k) d r em e u = absurd (omega arith)
recovery_fewer Wait d r em e u = absurd (omega arith)
recovery_fewer (WaitClock c) d r em e u = absurd (omega arith)
recovery_fewer (Size k) d r em e u = absurd (omega arith)
recovery_fewer SizesMove d r em e u = absurd (omega arith)
recovery_fewer Arrived d r em e u = absurd (omega arith)
recovery_fewer (Modify c) d r em e u = recovery_write d r (ap writes em)
recovery_fewer (Set c) d r em e u = recovery_write d r (ap writes em)
recovery_fewer (WriteMove k w) d r em e u = recovery_write d r (ap writes em)
recovery_fewer (Put k) d r em e u = recovery_write d r (ap writes em)
recovery_fewer End d r em e u = absurd (let z : ◌≡◌ {A = ℕ} 0 1 = cc in omega arith)

fewer : (p : Stage) (w : Work) (r : Sequence) → ended (due_access (at p w r)) ≡ false → uses_of (due_access (at p w r)) ≡ 0
    → pending (resumed (at p w r) 0) < pending (at p w r)
unfolding due_access resumed pending
fewer (Space PollStatus) w r e u = absurd (omega arith)
fewer (Space PollSizes) w r e u = absurd (omega arith)
fewer (Space (PollCounts x)) w r e u = absurd (omega arith)
fewer Command w r e u = omega (arith, turn_reads w r.place)
fewer (Sending PollStatus) w r e u = absurd (omega arith)
fewer (Sending PollSizes) w r e u = absurd (omega arith)
fewer (Sending (PollCounts x)) w r e u = absurd (omega arith)
fewer Send w r e u = omega (arith, turn_reads (one_sent w) r.place)
fewer (Receiving PollStatus) w r e u = absurd (omega arith)
fewer (Receiving PollSizes) w r e u = absurd (omega arith)
fewer (Receiving (PollCounts x)) w r e u = absurd (omega arith)
fewer Receive w r e u = absurd (omega arith)
fewer (Recovery d) w r e u = recovery_fewer (recovery_move r.place) d r refl e u
fewer (Ended x) w r e u = absurd (let z : ◌≡◌ {A = ℕ} 0 1 = cc in omega arith)

-- 11 * (length script + 1) ACCESSES ARE ENOUGH FOR A TRANSFER, wherever it stands
pub transfer_unlimited : (words : List ℕ → ℕ → ℕ) (script : List ℕ) (n : ℕ) (s : State Transfer) → 11 * (length script + 1) ≤ n
    → Unlimited due_access resumed words script s (run due_access resumed words script n s)
unfolding pending
transfer_unlimited words script n s h =
    run_unlimited due_access resumed words script pending 10 (λ (t : Transfer). pending_most t.phase t.reset.place)
    (λ (t : Transfer). fewer t.phase t.work t.reset)
    n s (omega (arith, pending_most s.machine.phase s.machine.reset.place))

-- EVERY ACCESS OF A FLUSH IS A READ: length script are enough
flush_reads : (f : Flush) → ended (flush_access f) ≡ false → uses_of (flush_access f) ≡ 0 → ⊥
flush_reads Status e u = omega arith
flush_reads Sizes e u = omega arith
flush_reads Counts e u = omega arith
flush_reads (FlushEnded x) e u = let z : ◌≡◌ {A = ℕ} 0 1 = cc in omega arith

pub flush_unlimited : (words : List ℕ → ℕ → ℕ) (script : List ℕ) (n : ℕ) (s : State Flush) → length script ≤ n
    → Unlimited flush_access flushed words script s (run flush_access flushed words script n s)
flush_unlimited words script n s h =
    run_unlimited flush_access flushed words script (λ (f : Flush). 0) 0 (λ (f : Flush). omega arith)
    (λ (f : Flush) e u. absurd (flush_reads f e u))
    n s (omega arith)
