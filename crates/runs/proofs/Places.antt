-- The places of a transfer's words: never more are done than there are, and the word that is due is the next one.
-- Assumes nothing.
use Prim.Native.Nat.{ℕ, zero, suc, ◌+◌, ◌<◌, ◌≤◌}
use mathlib.Core.Bool.{Bool, true, false, cond}
use mathlib.Core.List.{List, [], ◌∷◌}
use mathlib.Core.Path.{◌≡◌, refl, ap, subst}
use native.Mathlib.Omega.{arith}
use lib.Dec.{ltb}
use lib.ListN.{length, get_or, length-append}
use borrow.Author.Tests.{ltb-true, ltb-false}
use Rattle.words.specs.declared.transaction.Direction.{Direction}
use Rattle.words.specs.declared.transaction.Direction.TheVariants.{Tx, Rx}
use Rattle.words.specs.declared.transaction.LpspiError.TheVariants.{Fifo}
use Rattle.sequences.specs.declared.access.Access.TheVariants.{Done, Send as SendWord, Receive as ReceiveWord}
use Rattle.sequences.specs.Access.{Ending}
use Rattle.std.specs.Prelude.{Ok, Err}
use Rattle.sequences.specs.declared.access.RunError.TheVariants.{Driver}
use Rattle.sequences.specs.declared.driver.Lpspi.{Lpspi}
use Rattle.machine.specs.declared.poll.Poll.TheVariants.{Status}
use Rattle.machine.specs.declared.poll.Polled.{Polled}
use Rattle.machine.specs.declared.poll.Polled.TheVariants.{Failed, TooDeep, Next, Ready, Unready}
use Rattle.sequences.specs.declared.sequence.Sequence.{Sequence}
use Rattle.machine.specs.declared.transfer.Stage.{Stage}
use Rattle.machine.specs.declared.transfer.Stage.TheVariants.{Space, Command, Sending, Send, Receiving, Receive, Recovery, Ended}
use Rattle.machine.specs.declared.transfer.Work.{Work}
use Rattle.machine.specs.declared.transfer.Transfer.{Transfer}
use Rattle.machine.specs.Poll.{poll_access, polled}
use Rattle.sequences.specs.Recovery.{recovery_access, recovery_after, recovered}
use Rattle.machine.specs.Transfer.{at, start_transfer, send_turn, receive_turn, counted, one_sent, one_received}
use Rattle.machine.specs.Transfer.{space_by, sending_by, receiving_by, due_access, resumed}
use Rattle.runs.specs.Run.{State, start, halted, answer_of, received_after, times, after_access, step, run}
use Rattle.runs.proofs.PlainLaws.{kind, plain_keeps, poll_plain, recovery_plain}

-- what a phase knows: no word is done before TCR, a side that has its turn has words left, and Ok comes when all are done
abbrev Final : Ending → Work → Type 0
Final (Ok u) w = (w.sent ≡ w.send) × (w.received ≡ w.receive)
Final (Err e) w = Unit {0}

abbrev pub Standing : Stage → Work → Type 0
Standing (Space p) w = (w.sent ≡ 0) × (w.received ≡ 0)
Standing Command w = (w.sent ≡ 0) × (w.received ≡ 0)
Standing (Sending p) w = w.sent < w.send
Standing Send w = w.sent < w.send
Standing (Receiving p) w = w.received < w.receive
Standing Receive w = w.received < w.receive
Standing (Recovery d) w = Unit {0}
Standing (Ended e) w = Final e w

-- a transfer of `send` and `receive` words, of which `held` have been received
pub record Placed (send receive : ℕ) (t : Transfer) (held : ℕ) : Type 0 where
  pub to_send : t.work.send ≡ send
  pub to_receive : t.work.receive ≡ receive
  pub sent : t.work.sent ≤ send
  pub received : t.work.received ≤ receive
  pub holds : held ≡ t.work.received
  pub turn : Standing t.phase t.work

send_turn_lem : (w : Work) → w.sent ≤ w.send → w.received ≤ w.receive → Standing (send_turn w) w
send_turn_lem w s r = by_test (ltb w.sent w.send) refl (ltb w.received w.receive) refl
  where
    by_test : (t : Bool) → ltb w.sent w.send ≡ t → (u : Bool) → ltb w.received w.receive ≡ u
        → Standing (cond t (Sending Status) (cond u (Receiving Status) (Ended (Ok tt)))) w
    by_test true t u e = ltb-true w.sent w.send t
    by_test false t true e = ltb-true w.received w.receive e
    by_test false t false e = omega (arith, ltb-false w.sent w.send t, ltb-false w.received w.receive e)

receive_turn_lem : (w : Work) → w.sent ≤ w.send → w.received ≤ w.receive → Standing (receive_turn w) w
receive_turn_lem w s r = by_test (ltb w.received w.receive) refl (ltb w.sent w.send) refl
  where
    by_test : (t : Bool) → ltb w.received w.receive ≡ t → (u : Bool) → ltb w.sent w.send ≡ u
        → Standing (cond t (Receiving Status) (cond u (Sending Status) (Ended (Ok tt)))) w
    by_test true t u e = ltb-true w.received w.receive t
    by_test false t true e = ltb-true w.sent w.send e
    by_test false t false e = omega (arith, ltb-false w.received w.receive t, ltb-false w.sent w.send e)

space_turn : (x : Polled) (w : Work) → Standing Command w → Standing (space_by x) w
space_turn Failed w h = tt
space_turn TooDeep w h = tt
space_turn (Next p) w h = h
space_turn Ready w h = h
space_turn Unready w h = h

sending_turn : (x : Polled) (w : Work) → w.sent ≤ w.send → w.received ≤ w.receive → Standing Send w → Standing (sending_by w x) w
sending_turn Failed w s r h = tt
sending_turn TooDeep w s r h = tt
sending_turn (Next p) w s r h = h
sending_turn Ready w s r h = h
sending_turn Unready w s r h = receive_turn_lem w s r

receiving_turn : (x : Polled) (w : Work) → w.sent ≤ w.send → w.received ≤ w.receive → Standing Receive w → Standing (receiving_by w x) w
receiving_turn Failed w s r h = tt
receiving_turn TooDeep w s r h = tt
receiving_turn (Next p) w s r h = h
receiving_turn Ready w s r h = h
receiving_turn Unready w s r h = send_turn_lem w s r

recovery_turn : (t : Bool) (d : Direction) (w : Work) → Standing (cond t (Ended (Err (Driver (Fifo d)))) (Recovery d)) w
recovery_turn true d w = tt
recovery_turn false d w = tt

pub counted_up : (n limit : ℕ) → n < limit → counted n limit ≡ n + 1
counted_up n limit h = by_test (ltb n limit) refl
  where
    by_test : (t : Bool) → ltb n limit ≡ t → cond t (n + 1) n ≡ n + 1
    by_test true e = refl
    by_test false e = omega (arith, ltb-false n limit e)

module _ (send receive : ℕ) where
  -- the same words done: another phase
  on : (p q : Stage) (w : Work) (r u : Sequence) (n : ℕ) → Placed send receive (at p w r) n
      → (w.sent ≤ w.send → w.received ≤ w.receive → Standing p w → Standing q w) → Placed send receive (at q w u) n
  on p q w r u n h k =
      record {
        to_send = h.to_send;
        to_receive = h.to_receive;
        sent = h.sent;
        received = h.received;
        holds = h.holds;
        turn = k (let x : w.sent ≤ w.send = omega arith in x) (let x : w.received ≤ w.receive = omega arith in x) h.turn;
      }

  placed_on : (p : Stage) (w : Work) (r : Sequence) (a v : ℕ) (rs : List ℕ) → Placed send receive (at p w r) (length rs)
      → Placed send receive (resumed (at p w r) a) (length (received_after (due_access (at p w r)) v rs))
  unfolding due_access resumed
  placed_on (Space p) w r a v rs h =
      rw (plain_keeps (poll_access p) (poll_plain p) v rs)
      (on (Space p) _ w r r (length rs) h (λ s t u. space_turn (polled Tx p a) w u))
  placed_on Command w r a v rs h = on Command _ w r r (length rs) h (λ s t u. send_turn_lem w s t)
  placed_on (Sending p) w r a v rs h =
      rw (plain_keeps (poll_access p) (poll_plain p) v rs) (on (Sending p) _ w r r (length rs) h (sending_turn (polled Tx p a) w))
  placed_on Send w r a v rs h =
      let up : counted w.sent w.send ≡ w.sent + 1 = counted_up w.sent w.send h.turn in
      record {
        to_send = h.to_send;
        to_receive = h.to_receive;
        sent = omega arith;
        received = h.received;
        holds = h.holds;
        turn = send_turn_lem (one_sent w) (omega arith) (omega arith);
      }
  placed_on (Receiving p) w r a v rs h =
      rw (plain_keeps (poll_access p) (poll_plain p) v rs)
      (on (Receiving p) _ w r r (length rs) h (receiving_turn (polled Rx p a) w))
  placed_on Receive w r a v rs h =
      let up : counted w.received w.receive ≡ w.received + 1 = counted_up w.received w.receive h.turn in
      record {
        to_send = h.to_send;
        to_receive = h.to_receive;
        sent = h.sent;
        received = omega arith;
        holds = omega (arith, length-append rs (v ∷ []));
        turn = receive_turn_lem (one_received w) (omega arith) (omega arith);
      }
  placed_on (Recovery d) w r a v rs h =
      rw (plain_keeps (recovery_access r) (recovery_plain r) v rs)
      (on (Recovery d) _ w r (recovery_after r a) (length rs) h (λ s t u. recovery_turn (recovered (recovery_after r a)) d w))
  placed_on (Ended e) w r a v rs h = h

  module _ (words : List ℕ → ℕ → ℕ) (script : List ℕ) where
    pub placed_step : (s : State Transfer) → Placed send receive s.machine (length s.received)
        → Placed send receive (step due_access resumed words script s).machine (length (step due_access resumed words script s).received)
    unfolding step after_access
    placed_step s h = by_test (halted (due_access s.machine) s.used (length script))
      where
        by_test : (t : Bool)
            → Placed send receive (cond t s (after_access due_access resumed words script (due_access s.machine) s)).machine
            (length (cond t s (after_access due_access resumed words script (due_access s.machine) s)).received)
        by_test true = h
        by_test false =
            placed_on s.machine.phase s.machine.work s.machine.reset
            (answer_of (due_access s.machine) (get_or script s.used 0)) (get_or script s.used 0) s.received h

    pub placed_run : (n : ℕ) (s : State Transfer) → Placed send receive s.machine (length s.received)
        → Placed send receive (run due_access resumed words script n s).machine (length (run due_access resumed words script n s).received)
    unfolding times
    placed_run zero s h = h
    placed_run (suc n) s h = placed_run n (step due_access resumed words script s) (placed_step s h)

-- THE WORDS DONE AND THE WORD THAT IS DUE, for every state of a transfer of so many words
pub record InOrder (send receive : ℕ) (s : State Transfer) : Type 0 where
  pub to_send : s.machine.work.send ≡ send
  pub to_receive : s.machine.work.receive ≡ receive
  pub sent : s.machine.work.sent ≤ send
  pub received : s.machine.work.received ≤ receive
  pub held : length s.received ≡ s.machine.work.received
  pub sends : (i : ℕ) → due_access s.machine ≡ SendWord i → (i ≡ s.machine.work.sent) × (i < send)
  pub receives : (i : ℕ) → due_access s.machine ≡ ReceiveWord i → (i ≡ s.machine.work.received) × (i < receive)
  pub all : due_access s.machine ≡ Done (Ok tt) → (s.machine.work.sent ≡ send) × (s.machine.work.received ≡ receive)

due_send : (p : Stage) (w : Work) (r : Sequence) (i : ℕ) → Standing p w → due_access (at p w r) ≡ SendWord i → (i ≡ w.sent) × (i < w.send)
unfolding due_access
due_send (Space p) w r i h e = absurd (omega (arith, poll_plain p, ap kind e))
due_send Command w r i h e = absurd (omega (arith, ap kind e))
due_send (Sending p) w r i h e = absurd (omega (arith, poll_plain p, ap kind e))
due_send Send w r i h e = let x : i ≡ w.sent = cc in omega arith
due_send (Receiving p) w r i h e = absurd (omega (arith, poll_plain p, ap kind e))
due_send Receive w r i h e = absurd (omega (arith, ap kind e))
due_send (Recovery d) w r i h e = absurd (omega (arith, recovery_plain r, ap kind e))
due_send (Ended x) w r i h e = absurd (omega (arith, ap kind e))

due_receive : (p : Stage) (w : Work) (r : Sequence) (i : ℕ) → Standing p w → due_access (at p w r) ≡ ReceiveWord i
    → (i ≡ w.received) × (i < w.receive)
unfolding due_access
due_receive (Space p) w r i h e = absurd (omega (arith, poll_plain p, ap kind e))
due_receive Command w r i h e = absurd (omega (arith, ap kind e))
due_receive (Sending p) w r i h e = absurd (omega (arith, poll_plain p, ap kind e))
due_receive Send w r i h e = absurd (omega (arith, ap kind e))
due_receive (Receiving p) w r i h e = absurd (omega (arith, poll_plain p, ap kind e))
due_receive Receive w r i h e = let x : i ≡ w.received = cc in omega arith
due_receive (Recovery d) w r i h e = absurd (omega (arith, recovery_plain r, ap kind e))
due_receive (Ended x) w r i h e = absurd (omega (arith, ap kind e))

-- a transfer answers where it has ended
pub done_phase : (p : Stage) (w : Work) (r : Sequence) (x : Ending) → due_access (at p w r) ≡ Done x → p ≡ Ended x
unfolding due_access
done_phase (Space p) w r x e = absurd (omega (arith, poll_plain p, ap kind e))
done_phase Command w r x e = absurd (omega (arith, ap kind e))
done_phase (Sending p) w r x e = absurd (omega (arith, poll_plain p, ap kind e))
done_phase Send w r x e = absurd (omega (arith, ap kind e))
done_phase (Receiving p) w r x e = absurd (omega (arith, poll_plain p, ap kind e))
done_phase Receive w r x e = absurd (omega (arith, ap kind e))
done_phase (Recovery d) w r x e = absurd (omega (arith, recovery_plain r, ap kind e))
done_phase (Ended y) w r x e = cc

pub in_order : (send receive : ℕ) (s : State Transfer) → Placed send receive s.machine (length s.received) → InOrder send receive s
in_order send receive s h =
    let p = s.machine.phase in
    let w = s.machine.work in
    let r = s.machine.reset in
    record {
      to_send = h.to_send;
      to_receive = h.to_receive;
      sent = h.sent;
      received = h.received;
      held = h.holds;
      sends = λ (i : ℕ) (e : due_access s.machine ≡ SendWord i). omega (arith, due_send p w r i h.turn e);
      receives = λ (i : ℕ) (e : due_access s.machine ≡ ReceiveWord i). omega (arith, due_receive p w r i h.turn e);
      all = λ (e : due_access s.machine ≡ Done (Ok tt)). omega (arith, subst (λ (q : Stage). Standing q w) (done_phase p w r (Ok tt) e) h.turn);
    }

pub start_placed : (d : Lpspi) (command send receive : ℕ) → Placed send receive (start_transfer d command send receive) 0
start_placed d command send receive =
    record { to_send = refl; to_receive = refl; sent = omega arith; received = omega arith; holds = refl; turn = (refl, refl) }

-- EVERY STATE OF A RUN from the start of a transfer
pub run_places : (d : Lpspi) (command send receive : ℕ) (words : List ℕ → ℕ → ℕ) (script : List ℕ) (n : ℕ)
    → InOrder send receive (run due_access resumed words script n (start (start_transfer d command send receive)))
run_places d command send receive words script n =
    in_order send receive _
    (placed_run send receive words script n (start (start_transfer d command send receive))
    (start_placed d command send receive))
