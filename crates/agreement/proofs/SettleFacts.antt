-- An end that no flag was ever set at settles: some steps of its own, never busy, bring it to Ok twice, or to where it has nothing to take
-- and a word to send, and waits for a clock. Assumes nothing.
use Prim.Native.Nat.{ℕ, zero, suc, ◌+◌, ◌^◌, ◌<◌, ◌≤◌}
use mathlib.Core.Bool.{Bool, true, false, cond}
use mathlib.Core.List.{List, [], ◌∷◌, ◌++◌}
use mathlib.Core.Logic.{◌⊎◌, inl, inr, ⊎_elim}
use mathlib.Core.Path.{◌≡◌, refl, sym, subst}
use native.Mathlib.Omega.{arith}
use lib.Dec.{ltb}
use lib.ListN.{length, get_or}
use borrow.Author.Tests.{ltb-true, ltb-false, lt-ltb, le-ltb, eq-eqb, lt-leb}
use Rattle.manual.specs.declared.Register.TheVariants.{PARAM, SR, TCR}
use Rattle.words.specs.declared.transaction.Direction.TheVariants.{Tx}
use Rattle.sequences.specs.Sequence.{too_deep, depth_of}
use Rattle.words.specs.declared.transaction.LpspiError.TheVariants.{FrameSize, Fifo}
use Rattle.sequences.specs.declared.access.Access.TheVariants.{Write}
use Rattle.std.specs.Prelude.{Ok, Err}
use Rattle.sequences.specs.declared.access.RunError.TheVariants.{Driver, Stopped, Limits, ZeroClock, FifoExponent}
use Rattle.machine.specs.declared.flush.Flush.{Flush}
use Rattle.machine.specs.declared.flush.Flush.TheVariants.{Status as FlushStatus, Sizes as FlushSizes, Counts as FlushCounts}
use Rattle.machine.specs.declared.flush.Flush.TheVariants.{Ended as Flushed}
use Rattle.machine.specs.declared.poll.Poll.TheVariants.{Status, Sizes, Counts}
use Rattle.sequences.specs.declared.sequence.Sequence.{Sequence}
use Rattle.machine.specs.declared.transfer.Stage.{Stage}
use Rattle.machine.specs.declared.transfer.Stage.TheVariants.{Space, Command, Sending, Send, Receiving, Receive, Recovery, Ended}
use Rattle.machine.specs.declared.transfer.Work.{Work}
use Rattle.machine.specs.Transfer.{at, send_turn, receive_turn, counted, one_sent, one_received, due_access, resumed}
use Rattle.runs.proofs.Places.{counted_up}
use Rattle.agreement.specs.Start.{Job}
use Rattle.agreement.specs.End.{Command as a_command, Wire, queues, words_in, front, behind, place_of, shows}
use Rattle.agreement.specs.End.{registers_after, End, end, stepped}
use Rattle.agreement.specs.Tally.{Tally}
use Rattle.agreement.specs.Agreement.{OkTwice, seen}
use Rattle.agreement.proofs.ShownLaws.{shows_t, shows_r, shows_busy, below_capacity}
use Rattle.agreement.proofs.WordLists.{length_snoc, length_behind}
use Rattle.agreement.proofs.QueueLaws.{one_command, more_words}
use Rattle.agreement.proofs.EndFacts.{Keeps, Begun, Core, Now, NowFlush, Base, shown_fit, shown_depth, shown_transmit, shown_receive}
use Rattle.agreement.proofs.EndFacts.{pushed, core_send, base_send, commanded, core_command, base_command}
use Rattle.agreement.proofs.EndFacts.{core_receive, base_receive}

-- steps of one end alone, never busy
unfoldable pub steps : Job → ℕ → End → End
steps j zero x = x
steps j (suc i) x = steps j i (stepped j false x)

-- after c clocks
pub data Settled (n c : ℕ) (x : End) : Type 0 where
  over : OkTwice (seen x) → Settled n c x
  waits : c < n → length x.wire.receive ≡ 0 → 0 < length (words_in x.wire.transmit) → Settled n c x

pub record Leads (n c : ℕ) (j : Job) (x : End) : Type 0 where
  pub count : ℕ
  pub settled : Settled n c (steps j count x)

calm_flag : (t : Bool) (flags : ℕ) → (t ≡ true → 0 < flags) → flags ≡ 0 → t ≡ false
calm_flag true flags f h = let z : 0 < flags = f refl in absurd (omega arith)
calm_flag false flags f h = refl

refused : {a : Bool} → a ≡ true → a ≡ false → ⊥
refused h h' = grind arith

-- a command that is queued waits for the first word: with all words sent and gone there is none
no_command : (places words sent : ℕ) {n : ℕ} → (words < places → (sent ≡ words) × (0 < n)) → words ≡ 0 → n ≤ sent → places ≡ 0
no_command zero words sent h e l = refl
no_command (suc k) words sent h e l = let z = h (omega arith) in absurd (omega (arith, z.0, z.1))

module _ (n : ℕ) (accepts : Bool) (j : Job) (other : ℕ → ℕ) (small-e : j.exponent ≤ 4) (keeps : Keeps j) (c m : ℕ) (τ : Tally)
    (calm : τ.flags ≡ 0) where
  abbrev L : End → Type 0
  L = Leads n c j

  abbrev Cr : Work → List ℕ → Wire → Type 0
  Cr = Core n accepts j other c c m τ

  abbrev Bs : Wire → Type 0
  Bs = Base n accepts j other c τ

  here : (x : End) → Settled n c x → L x
  unfolding steps
  here x s = record { count = 0; settled = s }

  step_to : {x y : End} → stepped j false x ≡ y → L y → L x
  unfolding steps
  step_to {x} e l =
      let k : L (stepped j false x) = subst (λ (z : End). L z) (sym e) l in record { count = suc k.count; settled = k.settled }

  -- SINGLE STEPS, each from its phase to the next
  module _ (k : Work) (q : Sequence) (rs : List ℕ) (w : Wire) (g : List ℕ) (B : Bs w) where
    -- with its transfer in that phase
    abbrev on : Stage → End
    on p = end (at p k q) FlushStatus rs w g

    -- with its transfer answered Ok
    abbrev flushing : Flush → End
    flushing f = end (at (Ended (Ok tt)) k q) f rs w g

    t_off : w.t ≡ false
    t_off = calm_flag w.t τ.flags B.set_t calm

    r_off : w.r ≡ false
    r_off = calm_flag w.r τ.flags B.set_r calm

    -- what PARAM shows
    abbrev param : ℕ
    param = shows j.exponent false w g PARAM

    param_is : depth_of Tx param ≡ 2 ^ j.exponent
    param_is = shown_depth n accepts j other small-e keeps c m τ false w g

    param_fit : too_deep param ≡ false
    param_fit = shown_fit n accepts j other small-e keeps c m τ false w g

    go_space_status : L (on (Space Sizes)) → L (on (Space Status))
    unfolding stepped due_access resumed
    go_space_status l = step_to (rw (shows_t j.exponent false w (get_or g (place_of SR) 0), t_off)) l

    go_space_sizes : L (on (Space (Counts param))) → L (on (Space Sizes))
    unfolding stepped due_access resumed
    go_space_sizes l = step_to (rw param_fit) l

    go_space_counts : (v : ℕ) → length w.transmit < depth_of Tx v → L (on Command) → L (on (Space (Counts v)))
    unfolding stepped due_access resumed
    go_space_counts v h l =
        step_to
        (rw (
          shown_transmit n accepts j other small-e keeps c m τ false w g B,
          lt-ltb (length w.transmit) (depth_of Tx v) h,
        ))
        l

    go_command : length w.transmit ≡ 0
        → L
        (end (at (send_turn k) k q) FlushStatus rs (commanded n accepts j other small-e keeps c m τ w)
        (registers_after (j.words rs) (Write TCR k.command) g))
        → L (on Command)
    unfolding stepped due_access resumed
    go_command h l = step_to (rw (lt-leb (2 ^ j.exponent) (length w.transmit) (omega (arith, h, below_capacity j.exponent)))) l

    go_sending_status : L (on (Sending Sizes)) → L (on (Sending Status))
    unfolding stepped due_access resumed
    go_sending_status l = step_to (rw (shows_t j.exponent false w (get_or g (place_of SR) 0), t_off)) l

    go_sending_sizes : L (on (Sending (Counts param))) → L (on (Sending Sizes))
    unfolding stepped due_access resumed
    go_sending_sizes l = step_to (rw param_fit) l

    go_sending_ready : (v : ℕ) → length w.transmit < depth_of Tx v → L (on Send) → L (on (Sending (Counts v)))
    unfolding stepped due_access resumed
    go_sending_ready v h l =
        step_to
        (rw (
          shown_transmit n accepts j other small-e keeps c m τ false w g B,
          lt-ltb (length w.transmit) (depth_of Tx v) h,
        ))
        l

    go_sending_unready : (v : ℕ) → depth_of Tx v ≤ length w.transmit → L (on (receive_turn k)) → L (on (Sending (Counts v)))
    unfolding stepped due_access resumed
    go_sending_unready v h l =
        step_to
        (rw (
          shown_transmit n accepts j other small-e keeps c m τ false w g B,
          le-ltb (length w.transmit) (depth_of Tx v) h,
        ))
        l

    go_send : length w.transmit < 2 ^ j.exponent
        → L (end (at (send_turn (one_sent k)) (one_sent k) q) FlushStatus rs (pushed n accepts j other small-e keeps c m τ rs k w) g)
        → L (on Send)
    unfolding stepped due_access resumed
    go_send h l = step_to (rw (lt-leb (2 ^ j.exponent) (length w.transmit) h)) l

    go_receiving_status : L (on (Receiving Sizes)) → L (on (Receiving Status))
    unfolding stepped due_access resumed
    go_receiving_status l = step_to (rw (shows_r j.exponent false w (get_or g (place_of SR) 0), r_off)) l

    go_receiving_sizes : L (on (Receiving (Counts param))) → L (on (Receiving Sizes))
    unfolding stepped due_access resumed
    go_receiving_sizes l = step_to (rw param_fit) l

    go_receiving_ready : (v : ℕ) → 0 < length w.receive → L (on Receive) → L (on (Receiving (Counts v)))
    unfolding stepped due_access resumed
    go_receiving_ready v h l =
        step_to (rw (shown_receive n accepts j other small-e keeps c m τ false w g B, lt-ltb 0 (length w.receive) h)) l

    go_receiving_unready : (v : ℕ) → length w.receive ≡ 0 → L (on (send_turn k)) → L (on (Receiving (Counts v)))
    unfolding stepped due_access resumed
    go_receiving_unready v h l =
        step_to
        (rw (shown_receive n accepts j other small-e keeps c m τ false w g B, le-ltb 0 (length w.receive) (omega (arith, h)))) l

    go_receive : L
        (end (at (receive_turn (one_received k)) (one_received k) q) FlushStatus (rs ++ (front w.receive ∷ []))
        (queues w.transmit (behind w.receive) w) g)
        → L (on Receive)
    unfolding stepped due_access resumed
    go_receive l = step_to refl l

    go_flush_status : L (flushing FlushSizes) → L (flushing FlushStatus)
    unfolding stepped due_access resumed
    go_flush_status l =
        let held = get_or g (place_of SR) 0 in
        step_to
        (rw (
          shows_r j.exponent false w held,
          shows_t j.exponent false w held,
          shows_busy j.exponent false w held,
          r_off,
          t_off,
        ))
        l

    go_flush_sizes : L (flushing FlushCounts) → L (flushing FlushSizes)
    unfolding stepped due_access resumed
    go_flush_sizes l = step_to (rw param_fit) l

    go_flush_counts : length w.transmit ≡ 0 → L (flushing (Flushed (Ok tt))) → L (flushing FlushCounts)
    unfolding stepped due_access resumed
    go_flush_counts h l =
        step_to (rw (shown_transmit n accepts j other small-e keeps c m τ false w g B, eq-eqb (length w.transmit) 0 h)) l

    -- FLUSH: nothing is queued any more
    flush_counts : Cr k rs w → k.sent ≡ n → length rs ≡ n → L (flushing FlushCounts)
    unfolding due_access
    flush_counts x hs hr =
        go_flush_counts
        (no_command (length w.transmit) (length (words_in w.transmit)) k.sent x.unsent
        (omega (arith, x.in_eq, x.out_eq, B.small, B.made_le, calm)) (omega arith))
        (here (flushing (Flushed (Ok tt))) (over (refl, refl)))

    flush_status : Cr k rs w → k.sent ≡ n → length rs ≡ n → L (flushing FlushStatus)
    flush_status x hs hr = go_flush_status (go_flush_sizes (flush_counts x hs hr))

    -- TURNS. A side that has ended is passed over
    turn_receive : Cr k rs w → (length rs < n → L (on (Receiving Status))) → L (on (receive_turn k))
    turn_receive x go = by_tests (ltb k.received k.receive) (ltb k.sent k.send) refl refl
      where
        by_tests : (y z : Bool) → ltb k.received k.receive ≡ y → ltb k.sent k.send ≡ z
            → L (on (cond y (Receiving Status) (cond z (Sending Status) (Ended (Ok tt)))))
        by_tests true z h h' = go (omega (arith, ltb-true k.received k.receive h, x.taken, x.to_receive))
        by_tests false true h h' =
            absurd
            (omega (
              arith,
              ltb-false k.received k.receive h,
              ltb-true k.sent k.send h',
              x.taken,
              x.to_receive,
              x.to_send,
              x.in_eq,
              x.out_eq,
              B.small,
              B.made_le,
              calm,
            ))
        by_tests false false h h' =
            flush_status x (omega (arith, ltb-false k.sent k.send h', x.to_send, x.most))
            (omega (arith, ltb-false k.received k.receive h, x.taken, x.to_receive, x.in_eq, B.small))

    turn_send : Cr k rs w → (k.sent < n → L (on (Sending Status))) → (length rs < n → L (on (Receiving Status))) → L (on (send_turn k))
    turn_send x go go' = by_tests (ltb k.sent k.send) (ltb k.received k.receive) refl refl
      where
        by_tests : (y z : Bool) → ltb k.sent k.send ≡ y → ltb k.received k.receive ≡ z
            → L (on (cond y (Sending Status) (cond z (Receiving Status) (Ended (Ok tt)))))
        by_tests true z h h' = go (omega (arith, ltb-true k.sent k.send h, x.to_send))
        by_tests false true h h' = go' (omega (arith, ltb-true k.received k.receive h', x.taken, x.to_receive))
        by_tests false false h h' =
            flush_status x (omega (arith, ltb-false k.sent k.send h, x.to_send, x.most))
            (omega (arith, ltb-false k.received k.receive h', x.taken, x.to_receive, x.in_eq, B.small))

    -- nothing to take, no word queued: one is sent, and waits
    kick : 1 < 2 ^ j.exponent → length w.receive ≡ 0 → length w.transmit ≤ 1 → c < n → L (on (Sending Status))
    kick pos hr ht l =
        go_sending_status
        (go_sending_sizes
        (go_sending_ready param (omega (arith, param_is))
        (go_send (omega arith)
        (here (end (at (send_turn (one_sent k)) (one_sent k) q) FlushStatus rs (pushed n accepts j other small-e keeps c m τ rs k w) g)
        (waits l hr (omega (arith, more_words w.transmit (j.words rs k.sent))))))))

    receiving_counts : (v : ℕ) → 1 < 2 ^ j.exponent → Cr k rs w → length rs < n → (0 < length w.receive → L (on Receive))
        → L (on (Receiving (Counts v)))
    receiving_counts v pos x l go = by_tests (ltb 0 (length w.receive)) (ltb 0 (length (words_in w.transmit))) refl refl
      where
        by_tests : (y z : Bool) → ltb 0 (length w.receive) ≡ y → ltb 0 (length (words_in w.transmit)) ≡ z
            → L (on (Receiving (Counts v)))
        by_tests true z h h' = let a = ltb-true 0 (length w.receive) h in go_receiving_ready v a (go a)
        by_tests false true h h' =
            here (on (Receiving (Counts v)))
            (waits (omega (arith, ltb-false 0 (length w.receive) h, x.in_eq, B.lost_le, calm))
            (omega (arith, ltb-false 0 (length w.receive) h)) (ltb-true 0 (length (words_in w.transmit)) h'))
        by_tests false false h h' =
            let a : length w.receive ≡ 0 = omega (arith, ltb-false 0 (length w.receive) h) in
            let b : length (words_in w.transmit) ≡ 0 = omega (arith, ltb-false 0 (length (words_in w.transmit)) h') in
            let l' : c < n = omega (arith, x.in_eq, B.lost_le, calm) in
            let e : send_turn k ≡ Sending Status = rw (lt-ltb k.sent k.send (omega (arith, x.to_send, x.out_eq, B.made_le, calm))) in
            let few : length w.transmit ≤ 1 = omega (arith, b, one_command w.transmit x.first) in
            go_receiving_unready v a (subst (λ (p : Stage). L (on p)) (sym e) (kick pos a few l'))

    sending_counts : (v : ℕ) → Cr k rs w → depth_of Tx v ≡ 2 ^ j.exponent
        → (length w.transmit < 2 ^ j.exponent → L (on Send)) → (length rs < n → L (on (Receiving Status)))
        → L (on (Sending (Counts v)))
    sending_counts v x e go go' = by_test (ltb (length w.transmit) (depth_of Tx v)) refl
      where
        by_test : (y : Bool) → ltb (length w.transmit) (depth_of Tx v) ≡ y → L (on (Sending (Counts v)))
        by_test true h =
            let a = ltb-true (length w.transmit) (depth_of Tx v) h in go_sending_ready v a (go (omega (arith, e)))
        by_test false h = go_sending_unready v (ltb-false (length w.transmit) (depth_of Tx v) h) (turn_receive x go')

  module _ (pos : 1 < 2 ^ j.exponent) where
    abbrev run_on : Work → Sequence → List ℕ → Wire → List ℕ → Stage → End
    run_on k q rs w g p = end (at p k q) FlushStatus rs w g

    -- from the receiving side's poll, with at most i words to take
    receiving : (i : ℕ) (k : Work) (q : Sequence) (rs : List ℕ) (w : Wire) (g : List ℕ) → length w.receive ≤ i → Bs w
        → Cr k rs w → length rs < n → L (run_on k q rs w g (Receiving Status))
    receiving zero k q rs w g z B x l =
        go_receiving_status k q rs w g B
        (go_receiving_sizes k q rs w g B
        (receiving_counts k q rs w g B (param k q rs w g B) pos x l (λ h. absurd (omega arith))))
    receiving (suc i) k q rs w g z B x l =
        go_receiving_status k q rs w g B
        (go_receiving_sizes k q rs w g B
        (receiving_counts k q rs w g B (param k q rs w g B) pos x l
        (λ h.
        let B' = base_receive n accepts j other small-e keeps c m τ w.receive w refl B in
        let x' = core_receive n accepts j other small-e keeps c m τ k rs w.receive w refl x l h in
        go_receive k q rs w g B
        (turn_receive (one_received k) q (rs ++ (front w.receive ∷ [])) (queues w.transmit (behind w.receive) w) g B' x'
        (λ l'.
        receiving i (one_received k) q (rs ++ (front w.receive ∷ [])) (queues w.transmit (behind w.receive) w) g
        (omega (arith, length_behind w.receive)) B' x' l'))
        )))

    received : (k : Work) (q : Sequence) (rs : List ℕ) (w : Wire) (g : List ℕ) → Bs w → Cr k rs w → length rs < n
        → 0 < length w.receive → L (run_on k q rs w g Receive)
    received k q rs w g B x l h =
        let B' = base_receive n accepts j other small-e keeps c m τ w.receive w refl B in
        let x' = core_receive n accepts j other small-e keeps c m τ k rs w.receive w refl x l h in
        go_receive k q rs w g B
        (turn_receive (one_received k) q (rs ++ (front w.receive ∷ [])) (queues w.transmit (behind w.receive) w) g B' x'
        (λ l'.
        receiving (length w.receive) (one_received k) q (rs ++ (front w.receive ∷ []))
        (queues w.transmit (behind w.receive) w) g (omega (arith, length_behind w.receive)) B' x' l'))

    receiving_any : (k : Work) (q : Sequence) (rs : List ℕ) (w : Wire) (g : List ℕ) → Bs w → Cr k rs w → length rs < n
        → L (run_on k q rs w g (Receiving Status))
    receiving_any k q rs w g B x l = receiving (length w.receive) k q rs w g (omega arith) B x l

    -- a word goes, and its sender has the turn again
    sent_then : (k : Work) (q : Sequence) (rs : List ℕ) (w : Wire) (g : List ℕ) → Bs w → Cr k rs w → k.sent < n
        → length w.transmit < 2 ^ j.exponent → Begun k w
        → (counted k.sent k.send < n → Bs (pushed n accepts j other small-e keeps c m τ rs k w)
        → Cr (one_sent k) rs (pushed n accepts j other small-e keeps c m τ rs k w)
        → L (run_on (one_sent k) q rs (pushed n accepts j other small-e keeps c m τ rs k w) g (Sending Status)))
        → L (run_on k q rs w g Send)
    sent_then k q rs w g B x l h b go =
        let w' = pushed n accepts j other small-e keeps c m τ rs k w in
        let B' = base_send n accepts j other small-e keeps c m τ k rs w x l h B in
        let x' = core_send n accepts j other small-e keeps c m τ k rs w x l h b in
        go_send k q rs w g B h
        (turn_send (one_sent k) q rs w' g B' x' (λ l'. go l' B' x') (λ l'. receiving_any (one_sent k) q rs w' g B' x' l'))

    -- from the sending side's poll, with at most i words to send
    sending : (i : ℕ) (k : Work) (q : Sequence) (rs : List ℕ) (w : Wire) (g : List ℕ) → n ≤ k.sent + i → Bs w → Cr k rs w
        → k.sent < n → Begun k w → L (run_on k q rs w g (Sending Status))
    sending zero k q rs w g z B x l b = absurd (omega arith)
    sending (suc i) k q rs w g z B x l b =
        let up : counted k.sent k.send ≡ k.sent + 1 = counted_up k.sent k.send (omega (arith, x.to_send)) in
        go_sending_status k q rs w g B
        (go_sending_sizes k q rs w g B
        (sending_counts k q rs w g B (param k q rs w g B) x (param_is k q rs w g B)
        (λ h.
        sent_then k q rs w g B x l h b
        (λ l' B' x'.
        sending i (one_sent k) q rs (pushed n accepts j other small-e keeps c m τ rs k w) g (omega (arith, up)) B' x' l'
        (λ z'. absurd (omega (arith, up, z')))))
        (λ h. receiving_any k q rs w g B x h)))

    sending_any : (k : Work) (q : Sequence) (rs : List ℕ) (w : Wire) (g : List ℕ) → Bs w → Cr k rs w → k.sent < n → Begun k w
        → L (run_on k q rs w g (Sending Status))
    sending_any k q rs w g B x l b = sending n k q rs w g (omega arith) B x l b

    sent : (k : Work) (q : Sequence) (rs : List ℕ) (w : Wire) (g : List ℕ) → Bs w → Cr k rs w → k.sent < n
        → length w.transmit < 2 ^ j.exponent → Begun k w → L (run_on k q rs w g Send)
    sent k q rs w g B x l h b =
        let up : counted k.sent k.send ≡ k.sent + 1 = counted_up k.sent k.send (omega (arith, x.to_send)) in
        sent_then k q rs w g B x l h b
        (λ l' B' x'.
        sending_any (one_sent k) q rs (pushed n accepts j other small-e keeps c m τ rs k w) g B' x' l' (λ z. absurd (omega (arith, up, z))))

    sending_asked : (v : ℕ) (k : Work) (q : Sequence) (rs : List ℕ) (w : Wire) (g : List ℕ)
        → depth_of Tx v ≡ 2 ^ j.exponent → Bs w → Cr k rs w → k.sent < n → Begun k w
        → L (run_on k q rs w g (Sending (Counts v)))
    sending_asked v k q rs w g e B x l b =
        sending_counts k q rs w g B v x e (λ h. sent k q rs w g B x l h b) (λ h. receiving_any k q rs w g B x h)

    command_then : (k : Work) (q : Sequence) (rs : List ℕ) (w : Wire) (g : List ℕ) → Bs w → Cr k rs w → k.sent < n
        → k.sent ≡ 0 → length w.transmit ≡ 0
        → L (run_on k q rs w g Command)
    command_then k q rs w g B x l z h =
        let g' = registers_after (j.words rs) (Write TCR k.command) g in
        let w' = commanded n accepts j other small-e keeps c m τ w in
        let B' = base_command n accepts j other small-e keeps c m τ w h B in
        let x' = core_command n accepts j other small-e keeps c m τ k rs w x l z h in
        go_command k q rs w g B h
        (turn_send k q rs w' g' B' x' (λ l'. sending_any k q rs w' g' B' x' l' (λ y. omega (arith, length_snoc w.transmit a_command)))
        (λ l'. receiving_any k q rs w' g' B' x' l'))

    flush_leads : (f : Flush) (k : Work) (q : Sequence) (rs : List ℕ) (w : Wire) (g : List ℕ) → Bs w
        → NowFlush n accepts j other f c c m τ k rs w → L (end (at (Ended (Ok tt)) k q) f rs w g)
    unfolding due_access
    flush_leads FlushStatus k q rs w g B N = flush_status k q rs w g B N.0 N.1 N.2
    flush_leads FlushSizes k q rs w g B N = go_flush_sizes k q rs w g B (flush_counts k q rs w g B N.0 N.1 N.2)
    flush_leads FlushCounts k q rs w g B N = flush_counts k q rs w g B N.0 N.1 N.2
    flush_leads (Flushed (Ok u)) k q rs w g B N = here (end (at (Ended (Ok tt)) k q) (Flushed (Ok tt)) rs w g) (over (refl, refl))
    flush_leads (Flushed (Err (Driver FrameSize))) k q rs w g B N = absurd N
    flush_leads (Flushed (Err (Driver (Fifo d)))) k q rs w g B N = absurd (omega (arith, N.3))
    flush_leads (Flushed (Err Stopped)) k q rs w g B N = absurd N
    flush_leads (Flushed (Err Limits)) k q rs w g B N = absurd N
    flush_leads (Flushed (Err ZeroClock)) k q rs w g B N = absurd N
    flush_leads (Flushed (Err FifoExponent)) k q rs w g B N = absurd N

    -- EVERY PHASE SETTLES. Before its flush has begun
    phase_leads : accepts ≡ true → (p : Stage) (k : Work) (q : Sequence) (rs : List ℕ) (w : Wire) (g : List ℕ) → Bs w
        → Now n accepts j other p FlushStatus c c m τ k rs w → L (run_on k q rs w g p)
    phase_leads a (Space Status) k q rs w g B N =
        go_space_status k q rs w g B
        (go_space_sizes k q rs w g B
        (go_space_counts k q rs w g B (param k q rs w g B)
        (omega (arith, param_is k q rs w g B, N.5)) (command_then k q rs w g B N.0 N.3 N.4 N.5)))
    phase_leads a (Space Sizes) k q rs w g B N =
        go_space_sizes k q rs w g B
        (go_space_counts k q rs w g B (param k q rs w g B)
        (omega (arith, param_is k q rs w g B, N.5)) (command_then k q rs w g B N.0 N.3 N.4 N.5))
    phase_leads a (Space (Counts v)) k q rs w g B N =
        go_space_counts k q rs w g B v (omega (arith, N.2, N.5)) (command_then k q rs w g B N.0 N.3 N.4 N.5)
    phase_leads a Command k q rs w g B N = command_then k q rs w g B N.0 N.2 N.3 N.4
    phase_leads a (Sending Status) k q rs w g B N = sending_any k q rs w g B N.0 N.3 N.4
    phase_leads a (Sending Sizes) k q rs w g B N =
        go_sending_sizes k q rs w g B (sending_asked (param k q rs w g B) k q rs w g (param_is k q rs w g B) B N.0 N.3 N.4)
    phase_leads a (Sending (Counts v)) k q rs w g B N = sending_asked v k q rs w g N.2 B N.0 N.3 N.4
    phase_leads a Send k q rs w g B N = sent k q rs w g B N.0 N.2 N.3 N.4
    phase_leads a (Receiving Status) k q rs w g B N = receiving_any k q rs w g B N.0 N.2
    phase_leads a (Receiving Sizes) k q rs w g B N =
        go_receiving_sizes k q rs w g B
        (receiving_counts k q rs w g B (param k q rs w g B) pos N.0 N.2 (λ h. received k q rs w g B N.0 N.2 h))
    phase_leads a (Receiving (Counts v)) k q rs w g B N =
        receiving_counts k q rs w g B v pos N.0 N.2 (λ h. received k q rs w g B N.0 N.2 h)
    phase_leads a Receive k q rs w g B N = received k q rs w g B N.0 N.2 N.3
    phase_leads a (Recovery d) k q rs w g B N = absurd (omega (arith, N))
    phase_leads a (Ended (Ok u)) k q rs w g B N = flush_leads FlushStatus k q rs w g B N
    phase_leads a (Ended (Err (Driver FrameSize))) k q rs w g B N = absurd (refused a N)
    phase_leads a (Ended (Err (Driver (Fifo d)))) k q rs w g B N = absurd (omega (arith, N))
    phase_leads a (Ended (Err Stopped)) k q rs w g B N = absurd N
    phase_leads a (Ended (Err Limits)) k q rs w g B N = absurd N
    phase_leads a (Ended (Err ZeroClock)) k q rs w g B N = absurd N
    phase_leads a (Ended (Err FifoExponent)) k q rs w g B N = absurd N

    -- at any stage of it
    begun_flush : (p : Stage) (f : Flush) (k : Work) (rs : List ℕ) (w : Wire) → Now n accepts j other p f c c m τ k rs w
        → (p ≡ Ended (Ok tt)) ⊎ (f ≡ FlushStatus) ⊎ (0 < τ.flags) ⊎ (accepts ≡ false)
    begun_flush (Space v) f k rs w N = inr (inl N.1)
    begun_flush Command f k rs w N = inr (inl N.1)
    begun_flush (Sending v) f k rs w N = inr (inl N.1)
    begun_flush Send f k rs w N = inr (inl N.1)
    begun_flush (Receiving v) f k rs w N = inr (inl N.1)
    begun_flush Receive f k rs w N = inr (inl N.1)
    begun_flush (Recovery d) f k rs w N = inr (inr (inl N))
    begun_flush (Ended (Ok u)) f k rs w N = inl refl
    begun_flush (Ended (Err (Driver FrameSize))) f k rs w N = inr (inr (inr N))
    begun_flush (Ended (Err (Driver (Fifo d)))) f k rs w N = inr (inr (inl N))
    begun_flush (Ended (Err Stopped)) f k rs w N = absurd N
    begun_flush (Ended (Err Limits)) f k rs w N = absurd N
    begun_flush (Ended (Err ZeroClock)) f k rs w N = absurd N
    begun_flush (Ended (Err FifoExponent)) f k rs w N = absurd N

    pub leads : accepts ≡ true → (p : Stage) (f : Flush) (k : Work) (q : Sequence) (rs : List ℕ) (w : Wire) (g : List ℕ) → Bs w
        → Now n accepts j other p f c c m τ k rs w
        → L (end (at p k q) f rs w g)
    leads a p f k q rs w g B N =
        ⊎_elim
        (λ (e : p ≡ Ended (Ok tt)). subst (λ (z : Stage). L (end (at z k q) f rs w g)) (sym e)
        (flush_leads f k q rs w g B (subst (λ (z : Stage). Now n accepts j other z f c c m τ k rs w) e N)))
        (⊎_elim
        (λ (e : f ≡ FlushStatus). subst (λ (z : Flush). L (end (at p k q) z rs w g)) (sym e)
        (phase_leads a p k q rs w g B (subst (λ (z : Flush). Now n accepts j other p z c c m τ k rs w) e N)))
        (⊎_elim (λ (h : 0 < τ.flags). absurd (omega arith)) (λ (h : accepts ≡ false). absurd (refused a h))))
        (begun_flush p f k rs w N)
