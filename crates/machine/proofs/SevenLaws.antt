-- 7 in polls and in `flush` (document 02, No. 5), whatever the transfer: "an exponent over 4 in either field is answered 7 right after the
-- PARAM read, without recovery", and there only.
-- Assumes nothing.
use Prim.Native.Nat.{ℕ}
use mathlib.Core.Bool.{Bool, true, false, cond}
use mathlib.Core.Logic.{◌⊎◌, inl, inr}
use mathlib.Core.Path.{◌≡◌, refl, ap}
use lib.Dec.{eqb, ltb}
use Rattle.manual.specs.declared.Field.TheVariants.{Sr, Fsr}
use Rattle.manual.specs.declared.Fsr.TheVariants.{TXCOUNT}
use Rattle.manual.specs.declared.Register.TheVariants.{PARAM}
use Rattle.manual.specs.declared.Sr.TheVariants.{TEF, REF, MBF}
use Rattle.manual.specs.Manual.{read_field}
use Rattle.words.specs.declared.transaction.Direction.{Direction}
use Rattle.words.specs.declared.transaction.Direction.TheVariants.{Tx, Rx}
use Rattle.words.specs.declared.transaction.LpspiError.TheVariants.{Fifo}
use Rattle.sequences.specs.declared.access.Access.TheVariants.{Read}
use Rattle.std.specs.Prelude.{Ok, Err}
use Rattle.sequences.specs.declared.access.RunError.TheVariants.{Driver, FifoExponent}
use Rattle.sequences.specs.declared.sequence.Sequence.{Sequence}
use Rattle.sequences.specs.Sequence.{too_deep}
use Rattle.sequences.specs.Recovery.{recovery_after, recovered}
use Rattle.machine.specs.declared.flush.Flush.{Flush}
use Rattle.machine.specs.declared.flush.Flush.TheVariants.{Status as FlushStatus, Sizes as FlushSizes, Counts as FlushCounts}
use Rattle.machine.specs.declared.flush.Flush.TheVariants.{Ended as Flushed}
use Rattle.machine.specs.declared.poll.Poll.{Poll}
use Rattle.machine.specs.declared.poll.Poll.TheVariants.{Status, Sizes, Counts}
use Rattle.machine.specs.declared.poll.Polled.{Polled}
use Rattle.machine.specs.declared.poll.Polled.TheVariants.{Failed, TooDeep, Next, Ready, Unready}
use Rattle.machine.specs.declared.transfer.Stage.{Stage}
use Rattle.machine.specs.declared.transfer.Stage.TheVariants.{Space, Command, Sending, Send, Receiving, Receive, Recovery, Ended}
use Rattle.machine.specs.declared.transfer.Work.{Work}
use Rattle.machine.specs.Flush.{flush_access, flushed}
use Rattle.machine.specs.Poll.{poll_access, failed, ready, polled}
use Rattle.machine.specs.Transfer.{at, send_turn, receive_turn, one_sent, one_received, space_by, sending_by, receiving_by}
use Rattle.machine.specs.Transfer.{due_access, resumed}

-- the stages that poll: before the command, and both sides
abbrev pub polls : Stage → Bool
polls (Space q) = true
polls (Sending q) = true
polls (Receiving q) = true
polls p = false

-- RIGHT AFTER PARAM, in every poll: the transfer has ended with 7, so that no access is due, of a recovery neither
pub seven : (p : Stage) (w : Work) (r : Sequence) (v : ℕ) → polls p ≡ true → due_access (at p w r) ≡ Read PARAM → too_deep v ≡ true
    → resumed (at p w r) v ≡ at (Ended (Err FifoExponent)) w r
unfolding due_access resumed
seven (Space Sizes) w r v h a e = rw e refl
seven (Sending Sizes) w r v h a e = rw e refl
seven (Receiving Sizes) w r v h a e = rw e refl
seven p w r v h a e = cc

-- what a poll comes to: too deep only by PARAM
deep_only : (d : Direction) (q : Poll) (v : ℕ) → polled d q v ≡ TooDeep → (q ≡ Sizes) × (too_deep v ≡ true)
deep_only d Status v h = by_test (failed d v) h
  where
    by_test : (b : Bool) → cond b Failed (Next Sizes) ≡ TooDeep → (Status ≡ Sizes) × (too_deep v ≡ true)
    by_test true h = (cc, cc)
    by_test false h = (cc, cc)
deep_only d Sizes v h = (refl, by_test (too_deep v) h)
  where
    by_test : (b : Bool) → cond b TooDeep (Next (Counts v)) ≡ TooDeep → b ≡ true
    by_test true h = refl
    by_test false h = cc
deep_only d (Counts x) v h = by_test (ready d x v) h
  where
    by_test : (b : Bool) → cond b Ready Unready ≡ TooDeep → (Counts x ≡ Sizes) × (too_deep v ≡ true)
    by_test true h = (cc, cc)
    by_test false h = (cc, cc)

-- no turn ends so
send_goes : (w : Work) → send_turn w ≡ Ended (Err FifoExponent) → ⊥
send_goes w = by_tests (ltb w.sent w.send) (ltb w.received w.receive)
  where
    by_tests : (a b : Bool) → cond a (Sending Status) (cond b (Receiving Status) (Ended (Ok tt))) ≡ Ended (Err FifoExponent) → ⊥
    by_tests true b h = cc
    by_tests false true h = cc
    by_tests false false h = cc

receive_goes : (w : Work) → receive_turn w ≡ Ended (Err FifoExponent) → ⊥
receive_goes w = by_tests (ltb w.received w.receive) (ltb w.sent w.send)
  where
    by_tests : (a b : Bool) → cond a (Receiving Status) (cond b (Sending Status) (Ended (Ok tt))) ≡ Ended (Err FifoExponent) → ⊥
    by_tests true b h = cc
    by_tests false true h = cc
    by_tests false false h = cc

space_only : (x : Polled) → space_by x ≡ Ended (Err FifoExponent) → x ≡ TooDeep
space_only TooDeep h = refl
space_only x h = cc

sending_only : (w : Work) (x : Polled) → sending_by w x ≡ Ended (Err FifoExponent) → x ≡ TooDeep
sending_only w TooDeep h = refl
sending_only w Unready h = absurd (receive_goes w h)
sending_only w x h = cc

receiving_only : (w : Work) (x : Polled) → receiving_by w x ≡ Ended (Err FifoExponent) → x ≡ TooDeep
receiving_only w TooDeep h = refl
receiving_only w Unready h = absurd (send_goes w h)
receiving_only w x h = cc

-- AND THERE ONLY: a transfer that has ended with 7 had done so before, or has just read PARAM
pub seven_only : (p : Stage) (w : Work) (r : Sequence) (v : ℕ) → (resumed (at p w r) v).phase ≡ Ended (Err FifoExponent)
    → (p ≡ Ended (Err FifoExponent)) ⊎ ((due_access (at p w r) ≡ Read PARAM) × (too_deep v ≡ true))
unfolding due_access resumed
seven_only (Space q) w r v h =
    let k = deep_only Tx q v (space_only (polled Tx q v) h) in inr (ap poll_access k.0, k.1)
seven_only Command w r v h = absurd (send_goes w h)
seven_only (Sending q) w r v h =
    let k = deep_only Tx q v (sending_only w (polled Tx q v) h) in inr (ap poll_access k.0, k.1)
seven_only Send w r v h = absurd (send_goes (one_sent w) h)
seven_only (Receiving q) w r v h =
    let k = deep_only Rx q v (receiving_only w (polled Rx q v) h) in inr (ap poll_access k.0, k.1)
seven_only Receive w r v h = absurd (receive_goes (one_received w) h)
seven_only (Recovery d) w r v h = absurd (by_test (recovered (recovery_after r v)) h)
  where
    by_test : (b : Bool) → cond b (Ended (Err (Driver (Fifo d)))) (Recovery d) ≡ Ended (Err FifoExponent) → ⊥
    by_test true h = cc
    by_test false h = cc
seven_only (Ended x) w r v h = inl h

-- THE SAME OF `flush`
pub flush_seven : (f : Flush) (v : ℕ) → flush_access f ≡ Read PARAM → too_deep v ≡ true → flushed f v ≡ Flushed (Err FifoExponent)
flush_seven FlushSizes v a e = rw e refl
flush_seven f v a e = cc

pub flush_seven_only : (f : Flush) (v : ℕ) → flushed f v ≡ Flushed (Err FifoExponent)
    → (f ≡ Flushed (Err FifoExponent)) ⊎ ((flush_access f ≡ Read PARAM) × (too_deep v ≡ true))
flush_seven_only FlushStatus v h =
    absurd (by_tests (eqb (read_field (Sr REF) v) 1) (eqb (read_field (Sr TEF) v) 1) (eqb (read_field (Sr MBF) v) 1) h)
  where
    by_tests : (a b c : Bool)
        → cond a (Flushed (Err (Driver (Fifo Rx)))) (cond b (Flushed (Err (Driver (Fifo Tx)))) (cond c FlushStatus FlushSizes)) ≡ Flushed (Err FifoExponent) → ⊥
    by_tests true b c h = cc
    by_tests false true c h = cc
    by_tests false false true h = cc
    by_tests false false false h = cc
flush_seven_only FlushSizes v h = inr (refl, by_test (too_deep v) h)
  where
    by_test : (b : Bool) → cond b (Flushed (Err FifoExponent)) FlushCounts ≡ Flushed (Err FifoExponent) → b ≡ true
    by_test true h = refl
    by_test false h = cc
flush_seven_only FlushCounts v h = absurd (by_test (eqb (read_field (Fsr TXCOUNT) v) 0) h)
  where
    by_test : (b : Bool) → cond b (Flushed (Ok tt)) FlushStatus ≡ Flushed (Err FifoExponent) → ⊥
    by_test true h = cc
    by_test false h = cc
flush_seven_only (Flushed x) v h = inl h
