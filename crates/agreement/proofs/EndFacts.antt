-- What is known of an end after a list of events, by the phase that it is in, and that its steps keep it. `n` is the count of FIFO words
-- each way, `other` the words that the other end started with. Assumes nothing.
use Prim.Native.Nat.{ℕ, zero, suc, ◌+◌, ◌^◌, ◌<◌, ◌≤◌}
use mathlib.Core.Bool.{Bool, true, false, cond, ◌||◌}
use mathlib.Core.List.{List, [], ◌∷◌, ◌++◌}
use mathlib.Core.Path.{◌≡◌, refl, sym, ap, ◌∙◌, subst}
use native.Mathlib.Omega.{arith}
use lib.Dec.{T, eqb, ltb}
use lib.ListN.{length, get_or}
use borrow.Author.Tests.{ltb-true, ltb-false, eqb-true, lt-leb}
use Rattle.manual.specs.declared.Cr.TheVariants.{RST, RTF, RRF}
use Rattle.manual.specs.declared.Field.TheVariants.{Cr, Sr, Fsr}
use Rattle.manual.specs.declared.Fsr.TheVariants.{TXCOUNT, RXCOUNT}
use Rattle.manual.specs.declared.Register.{Register}
use Rattle.manual.specs.declared.Register.TheVariants.{PARAM, SR, FSR, TCR}
use Rattle.manual.specs.declared.Sr.TheVariants.{TEF, REF, MBF}
use Rattle.manual.specs.Manual.{read_field}
use Rattle.words.specs.Buffer.{tabulate}
use Rattle.words.specs.declared.transaction.Direction.{Direction}
use Rattle.words.specs.declared.transaction.Direction.TheVariants.{Tx, Rx}
use Rattle.words.specs.declared.transaction.LpspiError.TheVariants.{FrameSize, Fifo}
use Rattle.sequences.specs.declared.access.Access.{Access}
use Rattle.sequences.specs.declared.access.Access.TheVariants.{Read, Write, Send as SendWord, Receive as ReceiveWord, Done}
use Rattle.sequences.specs.Access.{Ending}
use Rattle.std.specs.Prelude.{Ok, Err}
use Rattle.sequences.specs.declared.access.RunError.TheVariants.{Driver, Stopped, Limits, ZeroClock, FifoExponent}
use Rattle.machine.specs.declared.flush.Flush.{Flush}
use Rattle.machine.specs.declared.flush.Flush.TheVariants.{Status as FlushStatus, Sizes as FlushSizes, Counts as FlushCounts}
use Rattle.machine.specs.declared.flush.Flush.TheVariants.{Ended as Flushed}
use Rattle.machine.specs.declared.poll.Poll.{Poll}
use Rattle.machine.specs.declared.poll.Poll.TheVariants.{Status, Sizes, Counts}
use Rattle.machine.specs.declared.poll.Polled.TheVariants.{Failed, Next, Ready, Unready}
use Rattle.sequences.specs.declared.sequence.Sequence.{Sequence}
use Rattle.machine.specs.declared.transfer.Stage.{Stage}
use Rattle.machine.specs.declared.transfer.Stage.TheVariants.{Space, Command, Sending, Send, Receiving, Receive, Recovery, Ended}
use Rattle.machine.specs.declared.transfer.Work.{Work}
use Rattle.machine.specs.Flush.{flush_access, flushed}
use Rattle.machine.specs.Poll.{failed, ready}
use Rattle.sequences.specs.Sequence.{too_deep, depth_of}
use Rattle.sequences.specs.Recovery.{recovery_access, recovery_after, recovered}
use Rattle.machine.specs.Transfer.{at, send_turn, receive_turn, one_sent, one_received, counted}
use Rattle.machine.specs.Transfer.{space_by, sending_by, receiving_by, due_access, resumed}
use Rattle.runs.specs.Run.{answer_of, received_after, ended}
use Rattle.runs.proofs.Places.{counted_up, done_phase}
use Rattle.agreement.specs.declared.register.Role.{Role}
use Rattle.agreement.specs.declared.register.Role.TheVariants.{Sizes as sizes, Status as status, Counts as counts}
use Rattle.agreement.specs.declared.register.Role.TheVariants.{Control as control, Commands as commands}
use Rattle.agreement.specs.declared.register.Role.TheVariants.{Sends as sends, Receives as receives, Holds as holds}
use Rattle.agreement.specs.Start.{Job}
use Rattle.agreement.specs.End.{Item, Command as a_command, Word, Wire, queues, lowered, full, words_in, front, behind, emptied_if}
use Rattle.agreement.specs.End.{role_of, place_of, shows, read_by}
use Rattle.agreement.specs.End.{written_by, answer_to, wire_after, fresh_wire, End, end, first_due, end_access, stepped}
use Rattle.agreement.specs.Tally.{Tally, nothing, overrun, overrun_by}
use Rattle.agreement.specs.Agreement.{OkTwice, Emptied, seen}
use Rattle.agreement.proofs.ShownLaws.{shows_t, shows_r, shows_fit, shows_depth, shows_transmit, shows_receive}
use Rattle.agreement.proofs.ShownLaws.{below_capacity, capacity_small}
use Rattle.agreement.proofs.WordLists.{from, length_snoc, snoc_is, uncons, length_behind, emptied_less}
use Rattle.agreement.proofs.WordLists.{emptied_is, lowered_set, all_from}
use Rattle.std.proofs.lemmas.Bool.{cond_both, false≢true}
use Rattle.std.proofs.lemmas.List.{nil_from_length}
use Rattle.agreement.proofs.QueueLaws.{AtFront, words_most, words_snoc, more_words, front_snoc, command_only, emptied_words}
use Rattle.agreement.proofs.RecoveryFacts.{silent, Quiet, recovery_quiet}

-- the word at a place is that of the start while fewer words were received
abbrev pub Keeps : Job → Type 0
Keeps j = (rs : List ℕ) (i : ℕ) → length rs ≤ i → j.words rs i ≡ j.words [] i

-- the words that an end started with
abbrev pub own : Job → ℕ → ℕ
own j i = j.words [] i

-- after the command: with no word sent yet, it is still queued
abbrev pub Begun : Work → Wire → Type 0
Begun k w = k.sent ≡ 0 → 0 < length w.transmit

-- accesses that send nothing
quiet_sends : (a : Access) {i : ℕ} → Quiet a → a ≡ SendWord i → ⊥
quiet_sends a {i} h e = subst (λ (x : Access). Quiet x) e h

read_sends : {r : Register} {i : ℕ} → Read r ≡ SendWord i → ⊥
read_sends h = grind arith

write_sends : {r : Register} {v i : ℕ} → Write r v ≡ SendWord i → ⊥
write_sends h = grind arith

done_sends : {x : Ending} {i : ℕ} → Done x ≡ SendWord i → ⊥
done_sends h = grind arith

-- accesses that write nothing
read_writes : {r s : Register} {v : ℕ} → Read r ≡ Write s v → ⊥
read_writes h = grind arith

done_writes : {x : Ending} {r : Register} {v : ℕ} → Done x ≡ Write r v → ⊥
done_writes h = grind arith

-- the place of a word that is sent
place : Access → ℕ
place (Read r) = 0
place (Write r v) = 0
place (SendWord i) = i
place (ReceiveWord i) = 0
place (Done x) = 0

-- accesses that receive nothing
not_quiet : (a : Access) {i : ℕ} → Quiet a → a ≡ ReceiveWord i → ⊥
not_quiet a {i} h e = subst (λ (x : Access). Quiet x) e h

not_read : {r : Register} {i : ℕ} → Read r ≡ ReceiveWord i → ⊥
not_read h = grind arith

not_sent : {j i : ℕ} → SendWord j ≡ ReceiveWord i → ⊥
not_sent h = grind arith

not_written : {r : Register} {v i : ℕ} → Write r v ≡ ReceiveWord i → ⊥
not_written h = grind arith

not_done : {x : Ending} {i : ℕ} → Done x ≡ ReceiveWord i → ⊥
not_done h = grind arith

module _ (n : ℕ) (accepts : Bool) (j : Job) (other : ℕ → ℕ) where
  -- WHILE A TRANSFER GOES ON, or once it has answered Ok. t: clocks, as the transmit queue counts them; c: as the receive queue does; m:
  -- words that the other end made up
  pub record Core (t c m : ℕ) (τ : Tally) (k : Work) (rs : List ℕ) (w : Wire) : Type 0 where
    pub yes : accepts ≡ true
    pub to_send : k.send ≡ n
    pub to_receive : k.receive ≡ n
    pub taken : k.received ≡ length rs
    pub in_eq : length rs + length w.receive + τ.lost ≡ c
    pub out_eq : t + length (words_in w.transmit) ≡ k.sent + τ.made_up
    pub most : k.sent ≤ n
    -- a command stands before every word, and waits for the first; with exponent 0 no word follows it
    pub first : AtFront w.transmit
    pub unsent : length (words_in w.transmit) < length w.transmit → (k.sent ≡ length (words_in w.transmit)) × (0 < n)
    pub shallow : j.exponent ≡ 0 → k.sent ≡ 0
    pub rx_is : τ.lost ≡ 0 → m ≡ 0 → w.receive ≡ from other (length rs) (length w.receive)
    pub got_is : τ.lost ≡ 0 → m ≡ 0 → rs ≡ from other 0 (length rs)

  -- a poll that has read PARAM knows the depth
  abbrev pub Asked : Poll → Type 0
  Asked Status = Unit {0}
  Asked Sizes = Unit {0}
  Asked (Counts v) = depth_of Tx v ≡ 2 ^ j.exponent

  -- the transfer has answered Ok
  abbrev pub NowFlush : Flush → ℕ → ℕ → ℕ → Tally → Work → List ℕ → Wire → Type 0
  NowFlush FlushStatus t c m τ k rs w = Core t c m τ k rs w × (k.sent ≡ n) × (length rs ≡ n)
  NowFlush FlushSizes t c m τ k rs w = Core t c m τ k rs w × (k.sent ≡ n) × (length rs ≡ n)
  NowFlush FlushCounts t c m τ k rs w = Core t c m τ k rs w × (k.sent ≡ n) × (length rs ≡ n)
  NowFlush (Flushed (Ok u)) t c m τ k rs w = Core t c m τ k rs w × (k.sent ≡ n) × (length rs ≡ n) × (length w.transmit ≡ 0)
  NowFlush (Flushed (Err (Driver FrameSize))) t c m τ k rs w = ⊥
  NowFlush (Flushed (Err (Driver (Fifo d)))) t c m τ k rs w = Core t c m τ k rs w × (k.sent ≡ n) × (length rs ≡ n) × (0 < τ.flags)
  NowFlush (Flushed (Err Stopped)) t c m τ k rs w = ⊥
  NowFlush (Flushed (Err Limits)) t c m τ k rs w = ⊥
  NowFlush (Flushed (Err ZeroClock)) t c m τ k rs w = ⊥
  NowFlush (Flushed (Err FifoExponent)) t c m τ k rs w = ⊥

  -- what is known in each phase
  abbrev pub Now : Stage → Flush → ℕ → ℕ → ℕ → Tally → Work → List ℕ → Wire → Type 0
  Now (Space q) f t c m τ k rs w =
      Core t c m τ k rs w × (f ≡ FlushStatus) × Asked q × (k.sent < n) × (k.sent ≡ 0) × (length w.transmit ≡ 0)
  Now Command f t c m τ k rs w =
      Core t c m τ k rs w × (f ≡ FlushStatus) × (k.sent < n) × (k.sent ≡ 0) × (length w.transmit ≡ 0)
  Now (Sending q) f t c m τ k rs w = Core t c m τ k rs w × (f ≡ FlushStatus) × Asked q × (k.sent < n) × Begun k w
  Now Send f t c m τ k rs w =
      Core t c m τ k rs w × (f ≡ FlushStatus) × (k.sent < n) × (length w.transmit < 2 ^ j.exponent) × Begun k w
  Now (Receiving q) f t c m τ k rs w = Core t c m τ k rs w × (f ≡ FlushStatus) × (length rs < n) × Begun k w
  Now Receive f t c m τ k rs w = Core t c m τ k rs w × (f ≡ FlushStatus) × (length rs < n) × (0 < length w.receive) × Begun k w
  Now (Recovery d) f t c m τ k rs w = 0 < τ.flags
  Now (Ended (Ok u)) f t c m τ k rs w = NowFlush f t c m τ k rs w
  Now (Ended (Err (Driver FrameSize))) f t c m τ k rs w = accepts ≡ false
  Now (Ended (Err (Driver (Fifo d)))) f t c m τ k rs w = 0 < τ.flags
  Now (Ended (Err Stopped)) f t c m τ k rs w = ⊥
  Now (Ended (Err Limits)) f t c m τ k rs w = ⊥
  Now (Ended (Err ZeroClock)) f t c m τ k rs w = ⊥
  Now (Ended (Err FifoExponent)) f t c m τ k rs w = ⊥

  -- what is known in all of them
  pub record Base (t : ℕ) (τ : Tally) (w : Wire) : Type 0 where
    pub small : t ≤ n
    pub cap_t : length w.transmit ≤ 2 ^ j.exponent
    pub cap_r : length w.receive ≤ 2 ^ j.exponent
    pub room : t + length (words_in w.transmit) ≤ n + τ.made_up
    pub tx_is : τ.made_up ≡ 0 → words_in w.transmit ≡ from (own j) t (length (words_in w.transmit))
    pub made : τ.made_up ≤ t
    pub lost_le : τ.lost ≤ τ.flags
    pub made_le : τ.made_up ≤ τ.flags
    pub set_t : w.t ≡ true → 0 < τ.flags
    pub set_r : w.r ≡ true → 0 < τ.flags

  pub record Good (t c m : ℕ) (τ : Tally) (x : End) : Type 0 where
    pub base : Base t τ x.wire
    pub now : Now x.transfer.phase x.flush t c m τ x.transfer.work x.received x.wire

  -- A QUIET ACCESS, of a poll or a recovery, does not overrun the transmit queue
  quiet_fits : (a : Access) (w : Wire) → Quiet a → overrun j.exponent a w ≡ false
  quiet_fits (Read r) w h = refl
  quiet_fits (Write r v) w h = by_role (role_of r) h
    where
      by_role : (x : Role) → T (silent x) → overrun_by x j.exponent w ≡ false
      by_role sizes h = refl
      by_role status h = refl
      by_role counts h = refl
      by_role control h = refl
      by_role receives h = refl
      by_role holds h = refl
      by_role sends h = elim h [ ]
      by_role commands h = elim h [ ]
  quiet_fits (SendWord i) w h = absurd h
  quiet_fits (ReceiveWord i) w h = absurd h
  quiet_fits (Done x) w h = absurd h

  quiet_first : (a later : Access) → Quiet a → first_due a later ≡ a
  quiet_first (Read r) later h = refl
  quiet_first (Write r v) later h = refl
  quiet_first (SendWord i) later h = absurd h
  quiet_first (ReceiveWord i) later h = absurd h
  quiet_first (Done x) later h = absurd h

  not_full : (queue : List Item) → length queue < 2 ^ j.exponent → full j.exponent queue ≡ false
  not_full queue h = lt-leb (2 ^ j.exponent) (length queue) h

  module _ (small-e : j.exponent ≤ 4) (keeps : Keeps j) (c m : ℕ) (τ : Tally) where
    abbrev At : Stage → Flush → Work → List ℕ → Wire → Type 0
    At p f k rs w = Now p f c c m τ k rs w

    -- THE TURNS
    all_done : (f : Flush) (k : Work) (rs : List ℕ) (w : Wire) → c ≤ n → f ≡ FlushStatus → Core c c m τ k rs w
        → k.send ≤ k.sent → k.receive ≤ k.received → At (Ended (Ok tt)) f k rs w
    all_done f k rs w l e x hs hr =
        subst (λ (g : Flush). NowFlush g c c m τ k rs w) (sym e)
        (x, omega (arith, x.to_send, x.most), omega (arith, x.to_receive, x.taken, x.in_eq))

    pub now_receive_turn : (f : Flush) (k : Work) (rs : List ℕ) (w : Wire) → c ≤ n → f ≡ FlushStatus → Core c c m τ k rs w
        → Begun k w → At (receive_turn k) f k rs w
    now_receive_turn f k rs w l e x b =
        cond_both (ltb k.received k.receive) (Receiving Status) (cond (ltb k.sent k.send) (Sending Status) (Ended (Ok tt))) (λ it. At it f k rs w)
        (λ h. (x, e, omega (arith, ltb-true k.received k.receive h, x.taken, x.to_receive), b))
        (λ h.
        cond_both (ltb k.sent k.send) (Sending Status) (Ended (Ok tt)) (λ it. At it f k rs w)
        (λ h'. (x, e, tt, omega (arith, ltb-true k.sent k.send h', x.to_send), b))
        (λ h'. all_done f k rs w l e x (ltb-false k.sent k.send h') (ltb-false k.received k.receive h)))

    pub now_send_turn : (f : Flush) (k : Work) (rs : List ℕ) (w : Wire) → c ≤ n → f ≡ FlushStatus → Core c c m τ k rs w
        → Begun k w → At (send_turn k) f k rs w
    now_send_turn f k rs w l e x b =
        cond_both (ltb k.sent k.send) (Sending Status) (cond (ltb k.received k.receive) (Receiving Status) (Ended (Ok tt))) (λ it. At it f k rs w)
        (λ h. (x, e, tt, omega (arith, ltb-true k.sent k.send h, x.to_send), b))
        (λ h.
        cond_both (ltb k.received k.receive) (Receiving Status) (Ended (Ok tt)) (λ it. At it f k rs w)
        (λ h'. (x, e, omega (arith, ltb-true k.received k.receive h', x.taken, x.to_receive), b))
        (λ h'. all_done f k rs w l e x (ltb-false k.sent k.send h) (ltb-false k.received k.receive h')))

    -- A WORD SENT
    abbrev pub pushed : List ℕ → Work → Wire → Wire
    pushed rs k w = queues (w.transmit ++ (Word (j.words rs k.sent) ∷ [])) w.receive w

    pub core_send : (k : Work) (rs : List ℕ) (w : Wire) → Core c c m τ k rs w → k.sent < n → length w.transmit < 2 ^ j.exponent
        → Begun k w → Core c c m τ (one_sent k) rs (pushed rs k w)
    core_send k rs w x l f b =
        let v = j.words rs k.sent in
        let more = more_words w.transmit v in
        let up : counted k.sent k.send ≡ k.sent + 1 = counted_up k.sent k.send (omega (arith, x.to_send)) in
        record {
          yes = x.yes;
          to_send = x.to_send;
          to_receive = x.to_receive;
          taken = x.taken;
          in_eq = x.in_eq;
          out_eq = omega (arith, up, x.out_eq, more);
          most = omega (arith, up);
          first = front_snoc w.transmit v x.first;
          unsent = λ h.
              let z = x.unsent (omega (arith, h, more, length_snoc w.transmit (Word v))) in (omega (arith, up, z.0, more), z.1);
          shallow = λ h. let z = b (x.shallow h) in absurd (omega (arith, z, ap (λ (e : ℕ). 2 ^ e) h));
          rx_is = x.rx_is;
          got_is = x.got_is;
        }

    pub base_send : (k : Work) (rs : List ℕ) (w : Wire) → Core c c m τ k rs w → k.sent < n → length w.transmit < 2 ^ j.exponent
        → Base c τ w → Base c τ (pushed rs k w)
    base_send k rs w x l f B =
        let v = j.words rs k.sent in
        let words = words_in w.transmit in
        record {
          small = B.small;
          cap_t = omega (arith, length_snoc w.transmit (Word v));
          cap_r = B.cap_r;
          room = omega (arith, more_words w.transmit v, x.out_eq);
          tx_is = λ h.
              rw words_snoc
              (snoc_is (own j) c words v (B.tx_is h)
              (keeps rs k.sent (omega (arith, x.in_eq, x.out_eq, h))
              ∙ ap (own j) (let e : k.sent ≡ c + length words = omega (arith, x.out_eq, h) in e)));
          made = B.made;
          lost_le = B.lost_le;
          made_le = B.made_le;
          set_t = B.set_t;
          set_r = B.set_r;
        }

    -- A COMMAND, where nothing is queued
    abbrev pub commanded : Wire → Wire
    commanded w = queues (w.transmit ++ (a_command ∷ [])) w.receive w

    pub core_command : (k : Work) (rs : List ℕ) (w : Wire) → Core c c m τ k rs w → k.sent < n → k.sent ≡ 0 → length w.transmit ≡ 0
        → Core c c m τ k rs (commanded w)
    core_command k rs w x l z h =
        let none = words_most w.transmit in
        record {
          yes = x.yes;
          to_send = x.to_send;
          to_receive = x.to_receive;
          taken = x.taken;
          in_eq = x.in_eq;
          out_eq = rw (command_only w.transmit h) (omega (arith, x.out_eq, none, h));
          most = x.most;
          first = rw (command_only w.transmit h) refl;
          unsent = λ h'. (rw (command_only w.transmit h) z, omega arith);
          shallow = x.shallow;
          rx_is = x.rx_is;
          got_is = x.got_is;
        }

    pub base_command : (w : Wire) → length w.transmit ≡ 0 → Base c τ w → Base c τ (commanded w)
    base_command w h B =
        record {
          small = B.small;
          cap_t = omega (arith, h, length_snoc w.transmit a_command, below_capacity j.exponent);
          cap_r = B.cap_r;
          room = rw (command_only w.transmit h) (omega (arith, B.room));
          tx_is = λ h'. rw (command_only w.transmit h) refl;
          made = B.made;
          lost_le = B.lost_le;
          made_le = B.made_le;
          set_t = B.set_t;
          set_r = B.set_r;
        }

    -- A WORD RECEIVED
    pub core_receive : (k : Work) (rs queue : List ℕ) (w : Wire) → w.receive ≡ queue → Core c c m τ k rs w
        → length rs < n → 0 < length queue
        → Core c c m τ (one_received k) (rs ++ (front queue ∷ [])) (queues w.transmit (behind queue) w)
    core_receive k rs [] w e x l h = absurd (omega arith)
    core_receive k rs (v ∷ queue) w e x l h =
        let up : counted k.received k.receive ≡ k.received + 1 =
        counted_up k.received k.receive (omega (arith, x.taken, x.to_receive)) in
        let one = length_snoc rs v in
        let len : length w.receive ≡ suc (length queue) = ap length e in
        record {
          yes = x.yes;
          to_send = x.to_send;
          to_receive = x.to_receive;
          taken = omega (arith, up, one, x.taken);
          in_eq = omega (arith, one, len, x.in_eq);
          out_eq = x.out_eq;
          most = x.most;
          first = x.first;
          unsent = x.unsent;
          shallow = x.shallow;
          rx_is = λ a b.
              let z : v ∷ queue ≡ from other (length rs) (length (v ∷ queue)) =
              subst (λ (q : List ℕ). q ≡ from other (length rs) (length q)) e (x.rx_is a b) in
              (uncons other (length rs) v queue z).1 ∙ ap (λ (i : ℕ). from other i (length queue)) (sym one);
          got_is = λ a b.
              let z : v ∷ queue ≡ from other (length rs) (length (v ∷ queue)) =
              subst (λ (q : List ℕ). q ≡ from other (length rs) (length q)) e (x.rx_is a b) in
              snoc_is other 0 rs v (x.got_is a b)
              ((uncons other (length rs) v queue z).0 ∙ ap other (let e' : length rs ≡ 0 + length rs = omega arith in e'));
        }

    pub base_receive : (queue : List ℕ) (w : Wire) → w.receive ≡ queue → Base c τ w → Base c τ (queues w.transmit (behind queue) w)
    base_receive queue w e B = record {
      small = B.small;
      cap_t = B.cap_t;
      cap_r = omega (arith, length_behind queue, ap length e);
      room = B.room;
      tx_is = B.tx_is;
      made = B.made;
      lost_le = B.lost_le;
      made_le = B.made_le;
      set_t = B.set_t;
      set_r = B.set_r;
    }

    -- A WRITE to CR or SR
    base_reset : (y y' z z' : Bool) (w : Wire) → Base c τ w
        → Base c τ (lowered y y' (queues (emptied_if z w.transmit) (emptied_if z' w.receive) w))
    base_reset y y' z z' w B = record {
      small = B.small;
      cap_t = omega (arith, emptied_less z w.transmit);
      cap_r = omega (arith, emptied_less z' w.receive);
      room = rw (emptied_words z w.transmit) (omega (arith, B.room, emptied_less z (words_in w.transmit)));
      tx_is = λ h. rw (emptied_words z w.transmit) (emptied_is z (words_in w.transmit) (own j) c (B.tx_is h));
      made = B.made;
      lost_le = B.lost_le;
      made_le = B.made_le;
      set_t = λ h. B.set_t (lowered_set y w.t h);
      set_r = λ h. B.set_r (lowered_set y' w.r h);
    }

    base_read : (x : Role) (w : Wire) → Base c τ w → Base c τ (read_by x w)
    base_read sizes w B = B
    base_read status w B = B
    base_read counts w B = B
    base_read control w B = B
    base_read commands w B = B
    base_read sends w B = B
    base_read receives w B = base_receive w.receive w refl B
    base_read holds w B = B

    base_write : (x : Role) (v : ℕ) (w : Wire) → T (silent x) → Base c τ w → Base c τ (written_by j.exponent x v w)
    base_write sizes v w h B = B
    base_write status v w h B = base_reset (eqb (read_field (Sr TEF) v) 1) (eqb (read_field (Sr REF) v) 1) false false w B
    base_write counts v w h B = B
    base_write control v w h B =
        let reset = eqb (read_field (Cr RST) v) 1 in
        base_reset reset reset (reset || eqb (read_field (Cr RTF) v) 1) (reset || eqb (read_field (Cr RRF) v) 1) w B
    base_write receives v w h B = B
    base_write holds v w h B = B
    base_write sends v w h B = elim h [ ]
    base_write commands v w h B = elim h [ ]

    -- an access that neither sends nor receives
    base_quiet : (word : ℕ → ℕ) (a : Access) (w : Wire) → Quiet a → Base c τ w → Base c τ (wire_after j.exponent word a w)
    base_quiet word (Read r) w h B = base_read (role_of r) w B
    base_quiet word (Write r v) w h B = base_write (role_of r) v w h B
    base_quiet word (SendWord i) w h B = absurd h
    base_quiet word (ReceiveWord i) w h B = absurd h
    base_quiet word (Done x) w h B = absurd h

    -- EVERY STEP KEEPS IT, phase by phase
    shown_t : (busy : Bool) (w : Wire) (g : List ℕ) → failed Tx (shows j.exponent busy w g SR) ≡ w.t
    shown_t busy w g = shows_t j.exponent busy w (get_or g (place_of SR) 0)

    shown_r : (busy : Bool) (w : Wire) (g : List ℕ) → failed Rx (shows j.exponent busy w g SR) ≡ w.r
    shown_r busy w g = shows_r j.exponent busy w (get_or g (place_of SR) 0)

    -- PARAM shows no exponent over 4, and the capacity
    pub shown_fit : (busy : Bool) (w : Wire) (g : List ℕ) → too_deep (shows j.exponent busy w g PARAM) ≡ false
    shown_fit busy w g = shows_fit j.exponent busy w (get_or g (place_of PARAM) 0) small-e

    pub shown_depth : (busy : Bool) (w : Wire) (g : List ℕ) → depth_of Tx (shows j.exponent busy w g PARAM) ≡ 2 ^ j.exponent
    shown_depth busy w g = shows_depth j.exponent busy w (get_or g (place_of PARAM) 0) small-e

    pub shown_transmit : (busy : Bool) (w : Wire) (g : List ℕ) → Base c τ w
        → read_field (Fsr TXCOUNT) (shows j.exponent busy w g FSR) ≡ length w.transmit
    shown_transmit busy w g B =
        shows_transmit j.exponent busy w (get_or g (place_of FSR) 0) (omega (arith, B.cap_t, capacity_small j.exponent small-e))

    pub shown_receive : (busy : Bool) (w : Wire) (g : List ℕ) → Base c τ w
        → read_field (Fsr RXCOUNT) (shows j.exponent busy w g FSR) ≡ length w.receive
    shown_receive busy w g B =
        shows_receive j.exponent busy w (get_or g (place_of FSR) 0) (omega (arith, B.cap_r, capacity_small j.exponent small-e))

    keep_flush : (busy : Bool) (k : Work) (q : Sequence) (f : Flush) (rs : List ℕ) (w : Wire) (g : List ℕ) → Base c τ w
        → NowFlush f c c m τ k rs w
        → Good c c m τ (stepped j busy (end (at (Ended (Ok tt)) k q) f rs w g))
    unfolding stepped due_access resumed
    keep_flush y k q FlushStatus rs w g B N = record {
      base = B;
      now =
          let v = shows j.exponent y w g SR in
          cond_both (eqb (read_field (Sr REF) v) 1) (Flushed (Err (Driver (Fifo Rx)))) (cond (eqb (read_field (Sr TEF) v) 1) (Flushed (Err (Driver (Fifo Tx))))
          (cond (eqb (read_field (Sr MBF) v) 1) FlushStatus FlushSizes)) (λ it. NowFlush it c c m τ k rs w)
          (λ h. (N.0, N.1, N.2, B.set_r (sym (shown_r y w g) ∙ h)))
          (λ h.
          cond_both (eqb (read_field (Sr TEF) v) 1) (Flushed (Err (Driver (Fifo Tx)))) (cond (eqb (read_field (Sr MBF) v) 1) FlushStatus FlushSizes) (λ it. NowFlush it c c m τ k rs w)
          (λ h'. (N.0, N.1, N.2, B.set_t (sym (shown_t y w g) ∙ h')))
          (λ h'. cond_both (eqb (read_field (Sr MBF) v) 1) FlushStatus FlushSizes (λ it. NowFlush it c c m τ k rs w) (λ h''. N) (λ h''. N)));
    }
    keep_flush y k q FlushSizes rs w g B N = rw (shown_fit y w g) (record { base = B; now = N })
    keep_flush y k q FlushCounts rs w g B N = record {
      base = B;
      now =
          let v = shows j.exponent y w g FSR in
          cond_both (eqb (read_field (Fsr TXCOUNT) v) 0) (Flushed (Ok tt)) FlushStatus (λ it. NowFlush it c c m τ k rs w)
          (λ h. (N.0, N.1, N.2, sym (shown_transmit y w g B) ∙ eqb-true (read_field (Fsr TXCOUNT) v) 0 h)) (λ h. N);
    }
    keep_flush y k q (Flushed x) rs w g B N = record { base = B; now = N }

    -- once a transfer has answered anything else, its flush does not matter
    keep_failed : (busy : Bool) (x : Ending) (k : Work) (q : Sequence) (f : Flush) (rs : List ℕ) (w : Wire) (g : List ℕ) → Base c τ w
        → ((f' : Flush) → At (Ended x) f' k rs w) → Good c c m τ (stepped j busy (end (at (Ended x) k q) f rs w g))
    unfolding stepped due_access resumed
    keep_failed y x k q FlushStatus rs w g B N = record { base = B; now = N _ }
    keep_failed y x k q FlushSizes rs w g B N = record { base = B; now = N _ }
    keep_failed y x k q FlushCounts rs w g B N = record { base = B; now = N _ }
    keep_failed y x k q (Flushed z) rs w g B N = record { base = B; now = N _ }

    keep_recovery : (busy : Bool) (d : Direction) (k : Work) (q : Sequence) (f : Flush) (rs : List ℕ) (w : Wire) (g : List ℕ)
        → Base c τ w → 0 < τ.flags
        → Good c c m τ (stepped j busy (end (at (Recovery d) k q) f rs w g))
    unfolding stepped due_access resumed
    keep_recovery y d k q f rs w g B N =
        let a = first_due (recovery_access q) (flush_access f) in let v = answer_to j.exponent y w g a in record {
          base =
              subst (λ (a : Access). Base c τ (wire_after j.exponent (j.words rs) a w))
              (sym (quiet_first (recovery_access q) (flush_access f) (recovery_quiet q)))
              (base_quiet (j.words rs) (recovery_access q) w (recovery_quiet q) B);
          now =
              cond_both (recovered (recovery_after q (answer_of a v))) (Ended (Err (Driver (Fifo d)))) (Recovery d) (λ it. At it (cond (ended (recovery_access q)) (flushed f (answer_of a v)) f) k (received_after a v rs) (wire_after j.exponent (j.words rs) a w)) (λ h. N) (λ h. N);
        }

    pub keep_step : (busy : Bool) (p : Stage) (k : Work) (q : Sequence) (f : Flush) (rs : List ℕ) (w : Wire) (g : List ℕ)
        → Base c τ w → At p f k rs w
        → Good c c m τ (stepped j busy (end (at p k q) f rs w g))
    unfolding stepped due_access resumed
    keep_step y (Space Status) k q f rs w g B N = record {
      base = B;
      now =
          cond_both (failed Tx (shows j.exponent y w g SR)) Failed (Next Sizes) (λ it. At (space_by it) f k rs w)
          (λ h. B.set_t (sym (shown_t y w g) ∙ h)) (λ h. N);
    }
    keep_step y (Space Sizes) k q f rs w g B N =
        rw (shown_fit y w g) (record { base = B; now = (N.0, N.1, shown_depth y w g, N.3, N.4, N.5) })
    keep_step y (Space (Counts v)) k q f rs w g B N = record {
      base = B;
      now =
          cond_both (ready Tx v (shows j.exponent y w g FSR)) Ready Unready (λ it. At (space_by it) f k rs w)
          (λ h. (N.0, N.1, N.3, N.4, N.5)) (λ h. (N.0, N.1, tt, N.3, N.4, N.5));
    }
    keep_step y Command k q f rs w g B N =
        rw (not_full w.transmit (omega (arith, below_capacity j.exponent, N.4)))
        (record {
          base = base_command w N.4 B;
          now =
              now_send_turn f k rs (commanded w) B.small N.1 (core_command k rs w N.0 N.2 N.3 N.4)
              (λ h. omega (arith, length_snoc w.transmit a_command));
        })
    keep_step y (Sending Status) k q f rs w g B N = record {
      base = B;
      now =
          cond_both (failed Tx (shows j.exponent y w g SR)) Failed (Next Sizes) (λ it. At (sending_by k it) f k rs w)
          (λ h. B.set_t (sym (shown_t y w g) ∙ h)) (λ h. N);
    }
    keep_step y (Sending Sizes) k q f rs w g B N =
        rw (shown_fit y w g) (record { base = B; now = (N.0, N.1, shown_depth y w g, N.3, N.4) })
    keep_step y (Sending (Counts v)) k q f rs w g B N = record {
      base = B;
      now =
          let counted = read_field (Fsr TXCOUNT) (shows j.exponent y w g FSR) in
          cond_both (ready Tx v (shows j.exponent y w g FSR)) Ready Unready (λ it. At (sending_by k it) f k rs w)
          (λ h. (N.0, N.1, N.3, omega (arith, shown_transmit y w g B, ltb-true counted (depth_of Tx v) h, N.2), N.4))
          (λ h. now_receive_turn f k rs w B.small N.1 N.0 N.4);
    }
    keep_step y Send k q f rs w g B N =
        rw (not_full w.transmit N.3)
        (record {
          base = base_send k rs w N.0 N.2 N.3 B;
          now =
              now_send_turn f (one_sent k) rs (pushed rs k w) B.small N.1 (core_send k rs w N.0 N.2 N.3 N.4)
              (λ h. omega (arith, length_snoc w.transmit (Word (j.words rs k.sent))));
        })
    keep_step y (Receiving Status) k q f rs w g B N = record {
      base = B;
      now =
          cond_both (failed Rx (shows j.exponent y w g SR)) Failed (Next Sizes) (λ it. At (receiving_by k it) f k rs w)
          (λ h. B.set_r (sym (shown_r y w g) ∙ h)) (λ h. N);
    }
    keep_step y (Receiving Sizes) k q f rs w g B N = rw (shown_fit y w g) (record { base = B; now = N })
    keep_step y (Receiving (Counts v)) k q f rs w g B N = record {
      base = B;
      now =
          let there = read_field (Fsr RXCOUNT) (shows j.exponent y w g FSR) in
          cond_both (ready Rx v (shows j.exponent y w g FSR)) Ready Unready (λ it. At (receiving_by k it) f k rs w)
          (λ h. (N.0, N.1, N.2, omega (arith, shown_receive y w g B, ltb-true 0 there h), N.3))
          (λ h. now_send_turn f k rs w B.small N.1 N.0 N.3);
    }
    keep_step y Receive k q f rs w g B N = record {
      base = base_receive w.receive w refl B;
      now =
          now_receive_turn f (one_received k) (rs ++ (front w.receive ∷ [])) (queues w.transmit (behind w.receive) w)
          B.small N.1 (core_receive k rs w.receive w refl N.0 N.2 N.3) N.4;
    }
    keep_step y (Recovery d) k q f rs w g B N = keep_recovery y d k q f rs w g B N
    keep_step y (Ended (Ok u)) k q f rs w g B N = keep_flush y k q f rs w g B N
    keep_step y (Ended (Err (Driver FrameSize))) k q f rs w g B N = keep_failed y (Err (Driver FrameSize)) k q f rs w g B (λ f'. N)
    keep_step y (Ended (Err (Driver (Fifo d)))) k q f rs w g B N = keep_failed y (Err (Driver (Fifo d))) k q f rs w g B (λ f'. N)
    keep_step y (Ended (Err Stopped)) k q f rs w g B N = absurd N
    keep_step y (Ended (Err Limits)) k q f rs w g B N = absurd N
    keep_step y (Ended (Err ZeroClock)) k q f rs w g B N = absurd N
    keep_step y (Ended (Err FifoExponent)) k q f rs w g B N = absurd N

  -- NO STEP OVERRUNS the transmit queue
  flush_fits : (f : Flush) (w : Wire) → overrun j.exponent (flush_access f) w ≡ false
  flush_fits FlushStatus w = refl
  flush_fits FlushSizes w = refl
  flush_fits FlushCounts w = refl
  flush_fits (Flushed x) w = refl

  pub no_overrun : (t c m : ℕ) (τ : Tally) (p : Stage) (k : Work) (q : Sequence) (f : Flush) (rs : List ℕ) (w : Wire)
      → Now p f t c m τ k rs w
      → overrun j.exponent (end_access (at p k q) f) w ≡ false
  unfolding due_access
  no_overrun t c m τ (Space Status) k q f rs w N = refl
  no_overrun t c m τ (Space Sizes) k q f rs w N = refl
  no_overrun t c m τ (Space (Counts v)) k q f rs w N = refl
  no_overrun t c m τ Command k q f rs w N = not_full w.transmit (omega (arith, below_capacity j.exponent, N.4))
  no_overrun t c m τ (Sending Status) k q f rs w N = refl
  no_overrun t c m τ (Sending Sizes) k q f rs w N = refl
  no_overrun t c m τ (Sending (Counts v)) k q f rs w N = refl
  no_overrun t c m τ Send k q f rs w N = not_full w.transmit N.3
  no_overrun t c m τ (Receiving Status) k q f rs w N = refl
  no_overrun t c m τ (Receiving Sizes) k q f rs w N = refl
  no_overrun t c m τ (Receiving (Counts v)) k q f rs w N = refl
  no_overrun t c m τ Receive k q f rs w N = refl
  no_overrun t c m τ (Recovery d) k q f rs w N =
      ap (λ (a : Access). overrun j.exponent a w) (quiet_first (recovery_access q) (flush_access f) (recovery_quiet q))
      ∙ quiet_fits (recovery_access q) w (recovery_quiet q)
  no_overrun t c m τ (Ended x) k q f rs w N = flush_fits f w

  -- A PHASE'S FACTS STAY while the transmit queue does not grow, its command waits, and the receive queue does not shrink
  flush_stays : (f : Flush) {t c m t' c' m' : ℕ} {τ τ' : Tally} {k : Work} {rs : List ℕ} {w w' : Wire}
      → (Core t c m τ k rs w → Core t' c' m' τ' k rs w')
      → length w'.transmit ≤ length w.transmit → τ.flags ≤ τ'.flags → NowFlush f t c m τ k rs w → NowFlush f t' c' m' τ' k rs w'
  flush_stays FlushStatus g a b N = (g N.0, N.1, N.2)
  flush_stays FlushSizes g a b N = (g N.0, N.1, N.2)
  flush_stays FlushCounts g a b N = (g N.0, N.1, N.2)
  flush_stays (Flushed (Ok u)) g a b N = (g N.0, N.1, N.2, omega (arith, N.3))
  flush_stays (Flushed (Err (Driver FrameSize))) g a b N = absurd N
  flush_stays (Flushed (Err (Driver (Fifo d)))) g a b N = (g N.0, N.1, N.2, omega (arith, N.3))
  flush_stays (Flushed (Err Stopped)) g a b N = absurd N
  flush_stays (Flushed (Err Limits)) g a b N = absurd N
  flush_stays (Flushed (Err ZeroClock)) g a b N = absurd N
  flush_stays (Flushed (Err FifoExponent)) g a b N = absurd N

  pub now_stays : (p : Stage) (f : Flush) {t c m t' c' m' : ℕ} {τ τ' : Tally} {k : Work} {rs : List ℕ} {w w' : Wire}
      → (Core t c m τ k rs w → Core t' c' m' τ' k rs w') → (Core t c m τ k rs w → Begun k w → Begun k w')
      → length w'.transmit ≤ length w.transmit → length w.receive ≤ length w'.receive → τ.flags ≤ τ'.flags
      → Now p f t c m τ k rs w → Now p f t' c' m' τ' k rs w'
  now_stays (Space q) f g e a b d N = (g N.0, N.1, N.2, N.3, N.4, omega (arith, N.5))
  now_stays Command f g e a b d N = (g N.0, N.1, N.2, N.3, omega (arith, N.4))
  now_stays (Sending q) f g e a b d N = (g N.0, N.1, N.2, N.3, e N.0 N.4)
  now_stays Send f g e a b d N = (g N.0, N.1, N.2, omega (arith, N.3), e N.0 N.4)
  now_stays (Receiving q) f g e a b d N = (g N.0, N.1, N.2, e N.0 N.3)
  now_stays Receive f g e a b d N = (g N.0, N.1, N.2, omega (arith, N.3), e N.0 N.4)
  now_stays (Recovery x) f g e a b d N = omega (arith, N)
  now_stays (Ended (Ok u)) f g e a b d N = flush_stays f g a d N
  now_stays (Ended (Err (Driver FrameSize))) f g e a b d N = N
  now_stays (Ended (Err (Driver (Fifo x)))) f g e a b d N = omega (arith, N)
  now_stays (Ended (Err Stopped)) f g e a b d N = absurd N
  now_stays (Ended (Err Limits)) f g e a b d N = absurd N
  now_stays (Ended (Err ZeroClock)) f g e a b d N = absurd N
  now_stays (Ended (Err FifoExponent)) f g e a b d N = absurd N

  -- A WORD IS RECEIVED only while some are to come, in a transfer that was accepted
  pub receives_below : (t c m : ℕ) (τ : Tally) (p : Stage) (k : Work) (q : Sequence) (f : Flush)
      (rs : List ℕ) (w : Wire) (i : ℕ)
      → Now p f t c m τ k rs w → due_access (at p k q) ≡ ReceiveWord i
      → (accepts ≡ true) × (length rs < n)
  unfolding due_access
  receives_below t c m τ (Space Status) k q f rs w i N h = absurd (not_read h)
  receives_below t c m τ (Space Sizes) k q f rs w i N h = absurd (not_read h)
  receives_below t c m τ (Space (Counts v)) k q f rs w i N h = absurd (not_read h)
  receives_below t c m τ Command k q f rs w i N h = absurd (not_written h)
  receives_below t c m τ (Sending Status) k q f rs w i N h = absurd (not_read h)
  receives_below t c m τ (Sending Sizes) k q f rs w i N h = absurd (not_read h)
  receives_below t c m τ (Sending (Counts v)) k q f rs w i N h = absurd (not_read h)
  receives_below t c m τ Send k q f rs w i N h = absurd (not_sent h)
  receives_below t c m τ (Receiving Status) k q f rs w i N h = absurd (not_read h)
  receives_below t c m τ (Receiving Sizes) k q f rs w i N h = absurd (not_read h)
  receives_below t c m τ (Receiving (Counts v)) k q f rs w i N h = absurd (not_read h)
  receives_below t c m τ Receive k q f rs w i N h = (N.0.yes, N.2)
  receives_below t c m τ (Recovery d) k q f rs w i N h = absurd (not_quiet (recovery_access q) (recovery_quiet q) h)
  receives_below t c m τ (Ended x) k q f rs w i N h = absurd (not_done h)

  -- A WORD IS SENT only while some are to go, in a transfer that was accepted, and never with exponent 0
  pub sends_below : (t c m : ℕ) (τ : Tally) (p : Stage) (k : Work) (q : Sequence) (f : Flush) (rs : List ℕ) (w : Wire) (i : ℕ)
      → Now p f t c m τ k rs w → due_access (at p k q) ≡ SendWord i
      → (accepts ≡ true) × (i < n) × (0 < j.exponent)
  unfolding due_access place
  sends_below t c m τ (Space Status) k q f rs w i N h = absurd (read_sends h)
  sends_below t c m τ (Space Sizes) k q f rs w i N h = absurd (read_sends h)
  sends_below t c m τ (Space (Counts v)) k q f rs w i N h = absurd (read_sends h)
  sends_below t c m τ Command k q f rs w i N h = absurd (write_sends h)
  sends_below t c m τ (Sending Status) k q f rs w i N h = absurd (read_sends h)
  sends_below t c m τ (Sending Sizes) k q f rs w i N h = absurd (read_sends h)
  sends_below t c m τ (Sending (Counts v)) k q f rs w i N h = absurd (read_sends h)
  sends_below t c m τ Send k q f rs w i N h =
      (N.0.yes, subst (λ (a : Access). place a < n) h N.2, above_zero j.exponent N.0.shallow N.3 N.4)
    where
      above_zero : (e : ℕ) {l s : ℕ} → (e ≡ 0 → s ≡ 0) → l < 2 ^ e → (s ≡ 0 → 0 < l) → 0 < e
      above_zero zero a b d = let z = d (a refl) in absurd (omega (arith, z))
      above_zero (suc e) a b d = omega arith
  sends_below t c m τ (Receiving Status) k q f rs w i N h = absurd (read_sends h)
  sends_below t c m τ (Receiving Sizes) k q f rs w i N h = absurd (read_sends h)
  sends_below t c m τ (Receiving (Counts v)) k q f rs w i N h = absurd (read_sends h)
  sends_below t c m τ Receive k q f rs w i N h = absurd (not_sent (sym h))
  sends_below t c m τ (Recovery d) k q f rs w i N h = absurd (quiet_sends (recovery_access q) (recovery_quiet q) h)
  sends_below t c m τ (Ended x) k q f rs w i N h = absurd (done_sends h)

  -- A COMMAND IS WRITTEN only where nothing is queued
  pub command_alone : (t c m : ℕ) (τ : Tally) (p : Stage) (k : Work) (q : Sequence) (f : Flush) (rs : List ℕ) (w : Wire) (v : ℕ)
      → Now p f t c m τ k rs w → due_access (at p k q) ≡ Write TCR v
      → length w.transmit ≡ 0
  unfolding due_access
  command_alone t c m τ (Space Status) k q f rs w v N h = absurd (read_writes h)
  command_alone t c m τ (Space Sizes) k q f rs w v N h = absurd (read_writes h)
  command_alone t c m τ (Space (Counts x)) k q f rs w v N h = absurd (read_writes h)
  command_alone t c m τ Command k q f rs w v N h = N.4
  command_alone t c m τ (Sending Status) k q f rs w v N h = absurd (read_writes h)
  command_alone t c m τ (Sending Sizes) k q f rs w v N h = absurd (read_writes h)
  command_alone t c m τ (Sending (Counts x)) k q f rs w v N h = absurd (read_writes h)
  command_alone t c m τ Send k q f rs w v N h = absurd (write_sends (sym h))
  command_alone t c m τ (Receiving Status) k q f rs w v N h = absurd (read_writes h)
  command_alone t c m τ (Receiving Sizes) k q f rs w v N h = absurd (read_writes h)
  command_alone t c m τ (Receiving (Counts x)) k q f rs w v N h = absurd (read_writes h)
  command_alone t c m τ Receive k q f rs w v N h = absurd (not_written (sym h))
  command_alone t c m τ (Recovery d) k q f rs w v N h = absurd (subst (λ (x : Access). Quiet x) h (recovery_quiet q))
  command_alone t c m τ (Ended x) k q f rs w v N h = absurd (done_writes h)

  -- A TRANSFER HAS ANSWERED OK only where all words were sent, and so never with exponent 0 where there is one
  flush_sent : (t c m : ℕ) (τ : Tally) (k : Work) (f : Flush) (rs : List ℕ) (w : Wire) → NowFlush f t c m τ k rs w
      → (k.sent ≡ n) × (j.exponent ≡ 0 → k.sent ≡ 0)
  flush_sent t c m τ k FlushStatus rs w N = (N.1, N.0.shallow)
  flush_sent t c m τ k FlushSizes rs w N = (N.1, N.0.shallow)
  flush_sent t c m τ k FlushCounts rs w N = (N.1, N.0.shallow)
  flush_sent t c m τ k (Flushed (Ok u)) rs w N = (N.1, N.0.shallow)
  flush_sent t c m τ k (Flushed (Err (Driver FrameSize))) rs w N = absurd N
  flush_sent t c m τ k (Flushed (Err (Driver (Fifo d)))) rs w N = (N.1, N.0.shallow)
  flush_sent t c m τ k (Flushed (Err Stopped)) rs w N = absurd N
  flush_sent t c m τ k (Flushed (Err Limits)) rs w N = absurd N
  flush_sent t c m τ k (Flushed (Err ZeroClock)) rs w N = absurd N
  flush_sent t c m τ k (Flushed (Err FifoExponent)) rs w N = absurd N

  pub shallow_empty : (t c m : ℕ) (τ : Tally) (p : Stage) (k : Work) (q : Sequence) (f : Flush) (rs : List ℕ) (w : Wire)
      → Now p f t c m τ k rs w → due_access (at p k q) ≡ Done (Ok tt) → j.exponent ≡ 0 → n ≡ 0
  shallow_empty t c m τ p k q f rs w N h l =
      let r = flush_sent t c m τ k f rs w (subst (λ (x : Stage). Now x f t c m τ k rs w) (done_phase p k q (Ok tt) h) N) in
      sym r.0 ∙ r.1 l

  -- AT FRESH: empty, accepted or refused
  pub fresh_core : (m : ℕ) (k : Work) → accepts ≡ true → k.send ≡ n → k.receive ≡ n → k.sent ≡ 0 → k.received ≡ 0
      → Core 0 0 m nothing k [] fresh_wire
  fresh_core m k y a b d e = record {
    yes = y;
    to_send = a;
    to_receive = b;
    taken = e;
    in_eq = refl;
    out_eq = omega (arith, d);
    most = omega (arith, d);
    first = refl;
    unsent = λ h. absurd (omega (arith, h));
    shallow = λ h. d;
    rx_is = λ h h'. refl;
    got_is = λ h h'. refl;
  }

  pub fresh_base : Base 0 nothing fresh_wire
  fresh_base = record {
    small = omega arith;
    cap_t = omega arith;
    cap_r = omega arith;
    room = omega arith;
    tx_is = λ h. refl;
    made = omega arith;
    lost_le = omega arith;
    made_le = omega arith;
    set_t = λ h. absurd (false≢true h);
    set_r = λ h. absurd (false≢true h);
  }

  -- AN END THAT HAS HAD OK TWICE
  module _ (c m : ℕ) (τ : Tally) where
    ok_now : (p : Stage) (k : Work) (q : Sequence) (f : Flush) (rs : List ℕ) (w : Wire) → due_access (at p k q) ≡ Done (Ok tt)
        → flush_access f ≡ Done (Ok tt) → Now p f c c m τ k rs w
        → NowFlush (Flushed (Ok tt)) c c m τ k rs w
    ok_now p k q f rs w hp hf N =
        subst (λ (x : Flush). NowFlush x c c m τ k rs w) (flush_ended f hf)
        (subst (λ (x : Stage). Now x f c c m τ k rs w) (done_phase p k q (Ok tt) hp) N)
      where
        flush_ended : (f : Flush) → flush_access f ≡ Done (Ok tt) → f ≡ Flushed (Ok tt)
        flush_ended FlushStatus h = cc
        flush_ended FlushSizes h = cc
        flush_ended FlushCounts h = cc
        flush_ended (Flushed x) h = cc

    module _ (x : End) (G : Good c c m τ x) (ok : OkTwice (seen x)) where
      pub ok_facts : NowFlush (Flushed (Ok tt)) c c m τ x.transfer.work x.received x.wire
      ok_facts =
          ok_now x.transfer.phase x.transfer.work x.transfer.reset x.flush x.received x.wire
          ok.0 ok.1 G.now

      pub ok_unhurt : τ.lost + τ.made_up ≡ 0
      ok_unhurt =
          let k = ok_facts in
          let B = G.base in
          omega (arith, k.0.in_eq, k.0.out_eq, k.1, k.2, k.3, B.small, words_most x.wire.transmit)

      pub ok_empty : Emptied (seen x)
      ok_empty = let k = ok_facts in let B = G.base in record {
        transmit = nil_from_length x.wire.transmit k.3;
        receive =
            nil_from_length x.wire.receive
            (omega (arith, k.0.in_eq, k.0.out_eq, k.1, k.2, k.3, B.small, words_most x.wire.transmit));
      }

      pub ok_received : m ≡ 0 → x.received ≡ tabulate n other
      ok_received z =
          let k = ok_facts in
          let u = ok_unhurt in
          k.0.got_is (omega arith) z ∙ ap (from other 0) k.2 ∙ all_from other n
