-- The bounds in `counted`, in `recovery_move` and, in polls, in `depth_of` are idle: whatever the registers answer, a transfer never sends or
-- receives a word past its count, its recovery never goes past the last of its moves, and a count is compared with 2^exponent.
-- Assumes nothing.
use Prim.Native.Nat.{ℕ, ◌+◌, ◌^◌, ◌<◌}
use mathlib.Core.Bool.{Bool, true, false, cond}
use mathlib.Core.List.{List, [], ◌∷◌}
use mathlib.Core.Path.{◌≡◌, refl, subst}
use native.Mathlib.Omega.{arith}
use lib.Dec.{ltb, leb}
use borrow.Author.Tests.{ltb-true, lt-ltb, leb-false}
use Rattle.words.specs.declared.transaction.Direction.{Direction}
use Rattle.words.specs.declared.transaction.Direction.TheVariants.{Tx, Rx}
use Rattle.sequences.specs.declared.driver.Lpspi.{Lpspi}
use Rattle.sequences.specs.declared.sequence.Sequence.{Sequence}
use Rattle.sequences.specs.Sequence.{exponent_of, too_deep, depth_of, move_at}
use Rattle.sequences.specs.Recovery.{recovery, recovery_move, recovery_after}
use Rattle.words.specs.declared.transaction.LpspiError.TheVariants.{Fifo}
use Rattle.std.specs.Prelude.{Ok, Err}
use Rattle.std.proofs.lemmas.List.{get_or_default}
use Rattle.sequences.specs.declared.access.RunError.TheVariants.{Driver}
use Rattle.sequences.proofs.DepthLaws.{fits, true_depth}
use Rattle.machine.specs.declared.poll.Poll.{Poll}
use Rattle.machine.specs.declared.poll.Poll.TheVariants.{Status, Sizes, Counts}
use Rattle.machine.specs.declared.poll.Polled.{Polled}
use Rattle.machine.specs.declared.poll.Polled.TheVariants.{Failed, TooDeep, Next, Ready, Unready}
use Rattle.machine.specs.declared.transfer.Stage.{Stage}
use Rattle.machine.specs.declared.transfer.Stage.TheVariants.{Space, Command, Sending, Send, Receiving, Receive, Recovery, Ended}
use Rattle.machine.specs.declared.transfer.Transfer.{Transfer}
use Rattle.machine.specs.declared.transfer.Work.{Work}
use Rattle.machine.specs.Poll.{failed, ready, polled}
use Rattle.machine.specs.Transfer.{at, start_transfer, send_turn, receive_turn, counted, one_sent, one_received}
use Rattle.machine.specs.Transfer.{space_by, sending_by, receiving_by, after_recovery, resumed}

-- a poll that has read PARAM
abbrev True : Poll → Type 0
True Status = Unit {0}
True Sizes = Unit {0}
True (Counts param) = depth_of Tx param ≡ 2 ^ exponent_of Tx param

abbrev TrueBy : Polled → Type 0
TrueBy Failed = Unit {0}
TrueBy TooDeep = Unit {0}
TrueBy (Next p) = True p
TrueBy Ready = Unit {0}
TrueBy Unready = Unit {0}

polled_true : (d : Direction) (p : Poll) (v : ℕ) → TrueBy (polled d p v)
polled_true d Status v = by_test (failed d v)
  where
    by_test : (b : Bool) → TrueBy (cond b Failed (Next Sizes))
    by_test true = tt
    by_test false = tt
polled_true d Sizes v = by_test (too_deep v) refl
  where
    by_test : (b : Bool) → too_deep v ≡ b → TrueBy (cond b TooDeep (Next (Counts v)))
    by_test true e = tt
    by_test false e = true_depth Tx v (fits Tx v e)
polled_true d (Counts param) v = by_test (ready d param v)
  where
    by_test : (b : Bool) → TrueBy (cond b Ready Unready)
    by_test true = tt
    by_test false = tt

-- what holds in each stage
abbrev Within : Stage → Work → Sequence → Type 0
Within (Space p) w r = (r.place < 27) × True p
Within Command w r = r.place < 27
Within (Sending p) w r = (w.sent < w.send) × (r.place < 27) × True p
Within Send w r = (w.sent < w.send) × (r.place < 27)
Within (Receiving p) w r = (w.received < w.receive) × (r.place < 27)
Within Receive w r = (w.received < w.receive) × (r.place < 27)
Within (Recovery d) w r = r.place < 27
Within (Ended e) w r = Unit {0}

send_turn_lem : (w : Work) (r : Sequence) → r.place < 27 → Within (send_turn w) w r
send_turn_lem w r l = by_tests (ltb w.sent w.send) (ltb w.received w.receive) refl refl
  where
    by_tests : (b c : Bool) → ltb w.sent w.send ≡ b → ltb w.received w.receive ≡ c
        → Within (cond b (Sending Status) (cond c (Receiving Status) (Ended (Ok tt)))) w r
    by_tests true c e f = (ltb-true w.sent w.send e, l, tt)
    by_tests false true e f = (ltb-true w.received w.receive f, l)
    by_tests false false e f = tt

receive_turn_lem : (w : Work) (r : Sequence) → r.place < 27 → Within (receive_turn w) w r
receive_turn_lem w r l = by_tests (ltb w.received w.receive) (ltb w.sent w.send) refl refl
  where
    by_tests : (b c : Bool) → ltb w.received w.receive ≡ b → ltb w.sent w.send ≡ c
        → Within (cond b (Receiving Status) (cond c (Sending Status) (Ended (Ok tt)))) w r
    by_tests true c e f = (ltb-true w.received w.receive e, l)
    by_tests false true e f = (ltb-true w.sent w.send f, l, tt)
    by_tests false false e f = tt

space_by_lem : (q : Polled) (w : Work) (r : Sequence) → r.place < 27 → TrueBy q → Within (space_by q) w r
space_by_lem Failed w r l h = tt
space_by_lem TooDeep w r l h = tt
space_by_lem (Next p) w r l h = (l, h)
space_by_lem Ready w r l h = l
space_by_lem Unready w r l h = (l, tt)

sending_by_lem : (q : Polled) (w : Work) (r : Sequence) → w.sent < w.send → r.place < 27 → TrueBy q → Within (sending_by w q) w r
sending_by_lem Failed w r s l h = l
sending_by_lem TooDeep w r s l h = tt
sending_by_lem (Next p) w r s l h = (s, l, h)
sending_by_lem Ready w r s l h = (s, l)
sending_by_lem Unready w r s l h = receive_turn_lem w r l

receiving_by_lem : (q : Polled) (w : Work) (r : Sequence) → w.received < w.receive → r.place < 27 → Within (receiving_by w q) w r
receiving_by_lem Failed w r s l = l
receiving_by_lem TooDeep w r s l = tt
receiving_by_lem (Next p) w r s l = (s, l)
receiving_by_lem Ready w r s l = (s, l)
receiving_by_lem Unready w r s l = send_turn_lem w r l

after_recovery_lem : (d : Direction) (w : Work) (r : Sequence) → Within (after_recovery d r) w r
after_recovery_lem d w r = by_test (leb 27 r.place) refl
  where
    by_test : (b : Bool) → leb 27 r.place ≡ b → Within (cond b (Ended (Err (Driver (Fifo d)))) (Recovery d)) w r
    by_test true e = tt
    by_test false e = leb-false 27 r.place e

-- one access keeps it
resumed_within : (p : Stage) (w : Work) (r : Sequence) (v : ℕ) → Within p w r → let t = resumed (at p w r) v in
    Within t.phase t.work t.reset
unfolding resumed
resumed_within (Space p) w r v h = space_by_lem (polled Tx p v) w r h.0 (polled_true Tx p v)
resumed_within Command w r v h = send_turn_lem w r h
resumed_within (Sending p) w r v h = sending_by_lem (polled Tx p v) w r h.0 h.1 (polled_true Tx p v)
resumed_within Send w r v h = send_turn_lem (one_sent w) r h.1
resumed_within (Receiving p) w r v h = receiving_by_lem (polled Rx p v) w r h.0 h.1
resumed_within Receive w r v h = receive_turn_lem (one_received w) r h.1
resumed_within (Recovery d) w r v h = after_recovery_lem d w (recovery_after r v)
resumed_within (Ended e) w r v h = tt

-- after these answers
abbrev pub resumed_by : Transfer → List ℕ → Transfer
resumed_by t [] = t
resumed_by t (v ∷ vs) = resumed_by (resumed t v) vs

within : (t : Transfer) (vs : List ℕ) → Within t.phase t.work t.reset
    → let u = resumed_by t vs in Within u.phase u.work u.reset
within t [] h = h
within t (v ∷ vs) h = within (resumed t v) vs (resumed_within t.phase t.work t.reset v h)

counts : (n limit : ℕ) → n < limit → counted n limit ≡ n + 1
counts n limit l = rw (lt-ltb n limit l) refl

-- IDLE BOUNDS: a word that is sent or received is counted, a recovery makes the moves of its table, and a poll for a place compares
-- TXCOUNT with 2^exponent
pub record Unbounded (t : Transfer) : Type 0 where
  pub sends : t.phase ≡ Send → counted t.work.sent t.work.send ≡ t.work.sent + 1
  pub receives : t.phase ≡ Receive → counted t.work.received t.work.receive ≡ t.work.received + 1
  pub recovers : (d : Direction) → t.phase ≡ Recovery d → recovery_move t.reset.place ≡ move_at recovery t.reset.place
  pub waits : (param : ℕ) → t.phase ≡ Space (Counts param) → depth_of Tx param ≡ 2 ^ exponent_of Tx param
  pub polls : (param : ℕ) → t.phase ≡ Sending (Counts param) → depth_of Tx param ≡ 2 ^ exponent_of Tx param

pub unbounded : (d : Lpspi) (command send receive : ℕ) (vs : List ℕ) → Unbounded (resumed_by (start_transfer d command send receive) vs)
unbounded d command send receive vs =
    let t = resumed_by (start_transfer d command send receive) vs in
    let h = within (start_transfer d command send receive) vs (omega arith, tt) in
    record {
      sends = λ e. counts t.work.sent t.work.send (subst (λ (p : Stage). Within p t.work t.reset) e h).0;
      receives = λ e. counts t.work.received t.work.receive (subst (λ (p : Stage). Within p t.work t.reset) e h).0;
      recovers = λ d e. get_or_default recovery t.reset.place _ _ (subst (λ (p : Stage). Within p t.work t.reset) e h);
      waits = λ param e. (subst (λ (p : Stage). Within p t.work t.reset) e h).1;
      polls = λ param e. (subst (λ (p : Stage). Within p t.work t.reset) e h).2;
    }
