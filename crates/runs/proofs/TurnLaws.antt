-- Whole turns stay with the run: the three reads of a poll, said once over the phase that holds the poll, and the access after it.
-- Assumes nothing.
use Prim.Native.Nat.{ℕ, ◌+◌, ◌*◌, ◌<◌, ◌≤◌}
use mathlib.Core.Bool.{Bool, true, false, cond, not}
use mathlib.Core.List.{List}
use mathlib.Core.Path.{◌≡◌, refl, sym, ap, ap₂, ◌∙◌, subst}
use native.Mathlib.Omega.{arith}
use lib.Dec.{ltb}
use lib.ListN.{length, get_or, set, length-set}
use borrow.Author.Tests.{lt-leb, lt-ltb, le-ltb}
use Rattle.std.specs.Prelude.{Option, None, Some, is_some}
use Rattle.manual.specs.declared.Register.{Register}
use Rattle.manual.specs.declared.Register.TheVariants.{SR, PARAM, FSR, TCR}
use Rattle.manual.specs.Manual.{offset_of}
use Rattle.words.specs.declared.transaction.Direction.{Direction}
use Rattle.words.specs.declared.transaction.Direction.TheVariants.{Tx, Rx}
use Rattle.sequences.specs.declared.access.Access.TheVariants.{Read, Write, Send as SendWord, Receive as ReceiveWord}
use Rattle.machine.specs.declared.poll.Poll.{Poll}
use Rattle.machine.specs.declared.poll.Poll.TheVariants.{Status, Sizes, Counts}
use Rattle.sequences.specs.declared.sequence.Sequence.{Sequence}
use Rattle.machine.specs.declared.transfer.Stage.{Stage}
use Rattle.machine.specs.declared.transfer.Stage.TheVariants.{Space, Command, Sending, Send, Receiving, Receive}
use Rattle.machine.specs.declared.transfer.Work.{Work}
use Rattle.machine.specs.declared.transfer.Transfer.{Transfer}
use Rattle.machine.specs.declared.poll.Polled.{Polled}
use Rattle.machine.specs.declared.poll.Polled.TheVariants.{Next, Ready, Unready}
use Rattle.machine.specs.Poll.{poll_access, polled}
use Rattle.machine.specs.Transfer.{at, worked, turn_at, send_turn, receive_turn, space_by}
use Rattle.machine.specs.Transfer.{sending_by, receiving_by, due_access, resumed}
use Rattle.machine.proofs.PollLaws.{Settled, settled_ready, settled_unready}
use Rattle.runs.specs.declared.drive.Frame.{Frame}
use Rattle.runs.specs.declared.drive.Spot.{Spot}
use Rattle.runs.specs.declared.fast.turns.Plan.{Plan}
use Rattle.runs.specs.declared.fast.turns.Turn.{Turn}
use Rattle.runs.specs.declared.running.Running.{Running}
use Rattle.runs.specs.Run.{put}
use Rattle.runs.specs.Running.{Stands, At, Kept, Accessed, Still}
use Rattle.runs.specs.Turns.{spot, put_poll, ready_or, Whole, turn, Onward, command_out}
use Rattle.runs.proofs.DriveLaws.{stands_next, moved, accessed}

length_put : (log : List ℕ) (made at v : ℕ) → length (put log made at v) ≡ length log
length_put log made at v = length-set (set log (2 * made) at) (2 * made + 1) v ∙ length-set log (2 * made) at

-- the turn of a side with words left is its poll
sends : (w : Work) → ltb w.sent w.send ≡ true → send_turn w ≡ Sending Status
sends w e = rw e

receives : (w : Work) → ltb w.received w.receive ≡ true → receive_turn w ≡ Receiving Status
receives w e = rw e

module _ (f : Frame) (script send old olds : List ℕ) (m : Transfer) where
  -- ONE READ
  stands_read : (u u' : Transfer) (g : Register) (made used made' used' got : ℕ) (log words : List ℕ)
      → Stands due_access resumed f script send old olds m u (spot made used got) log words
      → due_access u ≡ Read g → used < length script → 2 * made + 1 < length old → made' ≡ made + 1 → used' ≡ used + 1
      → resumed u (get_or script used 0) ≡ u'
      → Stands due_access resumed f script send old olds m u' (spot made' used' got) (put log made (offset_of g) (get_or script used 0)) words
  stands_read u u' g made used made' used' got log words h e l r em es n =
      stands_next due_access resumed f script send old olds m u (spot made used got) log words h (Read g) (get_or script used 0) e
      (lt-leb (length script) used l) refl
      u' (spot made' used' got) (put log made (offset_of g) (get_or script used 0)) words r (sym n) em es refl
      (length_put log made (offset_of g) (get_or script used 0)) refl refl

  -- THE THREE READS OF A POLL, in one of the three stages that have one, and what its result x leads to
  module _ (d : Direction) (stage : Poll → Stage) (by : Polled → Stage) (w : Work) (r : Sequence) (x : Polled)
      (due : (q : Poll) → due_access (at (stage q) w r) ≡ poll_access q)
      (after : (q : Poll) (v : ℕ) → resumed (at (stage q) w r) v ≡ at (by (polled d q v)) w r)
      (next : (q : Poll) → by (Next q) ≡ stage q) (made used got : ℕ) (log words : List ℕ) where
    abbrev status : ℕ
    status = get_or script used 0

    abbrev param : ℕ
    param = get_or script (used + 1) 0

    abbrev counts : ℕ
    counts = get_or script (used + 2) 0

    comes_to : (q : Poll) (v : ℕ) (y : Polled) → polled d q v ≡ y → resumed (at (stage q) w r) v ≡ at (by y) w r
    comes_to q v y e = after q v ∙ ap (λ (z : Polled). at (by z) w r) e

    goes_on : (q q' : Poll) (v : ℕ) → polled d q v ≡ Next q' → resumed (at (stage q) w r) v ≡ at (stage q') w r
    goes_on q q' v e = comes_to q v (Next q') e ∙ ap (λ (g : Stage). at g w r) (next q')

    stands_poll : Stands due_access resumed f script send old olds m (at (stage Status) w r) (spot made used got) log words
        → used + 3 ≤ length script → 2 * (made + 3) ≤ length old
        → Settled d status param counts x
        → Stands due_access resumed f script send old olds m (at (by x) w r) (spot (made + 3) (used + 3) got)
        (put_poll log made status param counts) words
    stands_poll h l room s =
        let log₁ = put log made (offset_of SR) status in
        let log₂ = put log₁ (made + 1) (offset_of PARAM) param in
        let h₁ = stands_read (at (stage Status) w r) (at (stage Sizes) w r) SR made used (made + 1) (used + 1) got log words h
        (due Status) (omega arith) (omega arith) refl refl (goes_on Status Sizes status s.first) in
        let h₂ =
        stands_read (at (stage Sizes) w r) (at (stage (Counts param)) w r) PARAM (made + 1) (used + 1) (made + 2)
        (used + 2) got log₁ words h₁
        (due Sizes) (omega arith) (omega arith) (omega arith) (omega arith) (goes_on Sizes (Counts param) param s.second) in
        stands_read (at (stage (Counts param)) w r) (at (by x) w r) FSR (made + 2) (used + 2) (made + 3) (used + 3) got log₂ words h₂
        (due (Counts param)) (omega arith) (omega arith) (omega arith) (omega arith) (comes_to (Counts param) counts x s.third)

-- what the code holds goes by the script's answers
abbrev Answers : Direction → Running → Polled → Type 0
Answers d r x =
    Settled d (get_or r.script.now r.spot.used 0) (get_or r.script.now (r.spot.used + 1) 0) (get_or r.script.now (r.spot.used + 2) 0) x

-- THE POLLS, as the code makes them
module _ (old olds : List ℕ) (m : Transfer) (r s : Running) (k : Kept r s) (w : Work) (q : Sequence) where
  abbrev From : Stage → Type 0
  From p = At due_access resumed old olds m (at p w q) r

  abbrev To : Stage → Type 0
  To p = At due_access resumed old olds m (at p w q) s

  by_poll : (d : Direction) (stage : Poll → Stage) (by : Polled → Stage) (x : Polled)
      → ((y : Poll) → due_access (at (stage y) w q) ≡ poll_access y)
      → ((y : Poll) (v : ℕ) → resumed (at (stage y) w q) v ≡ at (by (polled d y v)) w q)
      → ((y : Poll) → by (Next y) ≡ stage y) → Whole d r s x → Answers d r x → From (stage Status) → To (by x)
  by_poll d stage by x due after next whole settled h =
      moved due_access resumed old olds m (at (by x) w q) r s _ _ _ k whole.moved whole.logged whole.placed
      (stands_poll r.frame r.script.now r.sent_words.now old olds m d stage by w q x due after next r.spot.made r.spot.used
      r.spot.received r.log.now r.received_words.now h (omega (arith, whole.answers)) (omega (arith, whole.room, h.size, r.room)) settled)

  space_polled : (x : Polled) → Whole Tx r s x → Answers Tx r x → From (Space Status) → To (space_by x)
  unfolding due_access resumed
  space_polled x = by_poll Tx Space space_by x (λ y. refl) (λ y v. refl) (λ y. refl)

  sending_polled : (x : Polled) → Whole Tx r s x → Answers Tx r x → From (Sending Status) → To (sending_by w x)
  unfolding due_access resumed
  sending_polled x = by_poll Tx Sending (sending_by w) x (λ y. refl) (λ y v. refl) (λ y. refl)

  receiving_polled : (x : Polled) → Whole Rx r s x → Answers Rx r x → From (Receiving Status) → To (receiving_by w x)
  unfolding due_access resumed
  receiving_polled x = by_poll Rx Receiving (receiving_by w) x (λ y. refl) (λ y v. refl) (λ y. refl)

  -- no place yet for the command, or one
  pub space_waits : Whole Tx r s Unready → From (Space Status) → To (Space Status)
  space_waits whole h = space_polled Unready whole (settled_unready Tx _ _ _ whole.shown) h

  pub space_found : Whole Tx r s Ready → From (Space Status) → To Command
  space_found whole h = space_polled Ready whole (settled_ready Tx _ _ _ whole.shown) h

  -- the other side's turn, or the word
  sending_waits : Whole Tx r s Unready → From (Sending Status) → To (receive_turn w)
  sending_waits whole h = sending_polled Unready whole (settled_unready Tx _ _ _ whole.shown) h

  sending_found : Whole Tx r s Ready → From (Sending Status) → To Send
  sending_found whole h = sending_polled Ready whole (settled_ready Tx _ _ _ whole.shown) h

  receiving_waits : Whole Rx r s Unready → From (Receiving Status) → To (send_turn w)
  receiving_waits whole h = receiving_polled Unready whole (settled_unready Rx _ _ _ whole.shown) h

  receiving_found : Whole Rx r s Ready → From (Receiving Status) → To Receive
  receiving_found whole h = receiving_polled Ready whole (settled_ready Rx _ _ _ whole.shown) h

-- THE COMMAND
pub space_commands : (old olds : List ℕ) (m : Transfer) (r s : Running) (v : ℕ) (w : Work) (q : Sequence) → Kept r s
    → Accessed (Write TCR w.command) r s v → At due_access resumed old olds m (at Command w q) r
    → At due_access resumed old olds m (at (send_turn w) w q) s
unfolding due_access resumed
space_commands old olds m r s v w q k x h =
    accessed due_access resumed old olds m (at Command w q) r s (Write TCR w.command) v k x refl refl h

-- THE TURNS, of a transfer with these counts
module _ (p : Plan) (r : Running) where
  abbrev here : Transfer → ℕ → Work
  here m sent = worked sent r.spot.received m.work

  at_sending : (old olds : List ℕ) (m : Transfer) (sent : ℕ) → m.work.send ≡ p.send → sent < p.send
      → At due_access resumed old olds m (turn_at Tx sent r.spot.received m) r
      → At due_access resumed old olds m (at (Sending Status) (here m sent) m.reset) r
  at_sending old olds m sent es l h =
      subst (λ (g : Stage). At due_access resumed old olds m (at g (here m sent) m.reset) r)
      (sends (here m sent) (ap (ltb sent) es ∙ lt-ltb sent p.send l)) h

  at_receiving : (old olds : List ℕ) (m : Transfer) (sent : ℕ) → m.work.receive ≡ p.receive → r.spot.received < p.receive
      → At due_access resumed old olds m (turn_at Rx sent r.spot.received m) r
      → At due_access resumed old olds m (at (Receiving Status) (here m sent) m.reset) r
  at_receiving old olds m sent er l h =
      subst (λ (g : Stage). At due_access resumed old olds m (at g (here m sent) m.reset) r)
      (receives (here m sent) (ap (ltb r.spot.received) er ∙ lt-ltb r.spot.received p.receive l)) h

  -- a turn, where the words received are counted as they were
  same_turn : (old olds : List ℕ) (m : Transfer) (s : Running) (d : Direction) (sent : ℕ) → s.spot.received ≡ r.spot.received
      → At due_access resumed old olds m (turn_at d sent r.spot.received m) s
      → At due_access resumed old olds m (turn_at d sent s.spot.received m) s
  same_turn old olds m s d sent e h = subst (λ (g : ℕ). At due_access resumed old olds m (turn_at d sent g m) s) (sym e) h

  -- nothing was done
  pub turn_still : (s : Running) (t : Turn) → Kept r s → Still r s → Onward p t r t s
  turn_still s t k still m old olds es er h =
      same_turn old olds m s t.side t.sent (ap (λ (x : Spot). x.received) still.moved)
      (moved due_access resumed old olds m (turn_at t.side t.sent r.spot.received m) r s _ _ _ k
      still.moved still.logged still.placed h)

  -- a poll that is not ready
  pub send_waits : (s : Running) (sent : ℕ) → Kept r s → sent < p.send → Whole Tx r s Unready → Onward p (turn Tx sent) r (turn Rx sent) s
  send_waits s sent k l whole m old olds es er h =
      same_turn old olds m s Rx sent (ap (λ (x : Spot). x.received) whole.moved)
      (sending_waits old olds m r s k (here m sent) m.reset whole (at_sending old olds m sent es l h))

  pub receive_waits : (s : Running) (sent : ℕ) → Kept r s → r.spot.received < p.receive → Whole Rx r s Unready
      → Onward p (turn Rx sent) r (turn Tx sent) s
  receive_waits s sent k l whole m old olds es er h =
      same_turn old olds m s Tx sent (ap (λ (x : Spot). x.received) whole.moved)
      (receiving_waits old olds m r s k (here m sent) m.reset whole (at_receiving old olds m sent er l h))

  -- a word is sent
  pub send_goes : (s u : Running) (v sent : ℕ) → Kept r s → Kept s u → sent < p.send → Whole Tx r s Ready → Accessed (SendWord sent) s u v
      → Onward p (turn Tx sent) r (turn Tx (sent + 1)) u
  unfolding due_access resumed
  send_goes s u v sent k k' l whole x m old olds es er h =
      let h' = sending_found old olds m r s k (here m sent) m.reset whole (at_sending old olds m sent es l h) in
      let one : sent + 1 ≡ cond (ltb sent m.work.send) (sent + 1) sent = rw (ap (ltb sent) es ∙ lt-ltb sent p.send l) in
      let got : u.spot.received ≡ r.spot.received = x.received ∙ ap (λ (y : Spot). y.received) whole.moved in
      subst (λ (y : Transfer). At due_access resumed old olds m y u)
      (sym (ap₂ (λ (i g : ℕ). turn_at Tx i g m) one got))
      (accessed due_access resumed old olds m (at Send (here m sent) m.reset) s u (SendWord sent) v k' x refl refl h')

  -- a word is received
  pub receive_goes : (s u : Running) (v sent : ℕ) → Kept r s → Kept s u → r.spot.received < p.receive
      → r.spot.received < length r.received_words.now → Whole Rx r s Ready → Accessed (ReceiveWord s.spot.received) s u v
      → Onward p (turn Rx sent) r (turn Rx sent) u
  unfolding due_access resumed
  receive_goes s u v sent k k' l place whole x m old olds es er h =
      let h' = receiving_found old olds m r s k (here m sent) m.reset whole (at_receiving old olds m sent er l h) in
      let same : s.spot.received ≡ r.spot.received = ap (λ (y : Spot). y.received) whole.moved in
      let used : s.spot.used ≡ r.spot.used + 3 = ap (λ (y : Spot). y.used) whole.moved in
      let fits : s.spot.used < length s.script.now = omega (arith, used, whole.answers, ap length k.script) in
      let stored : s.spot.received < length s.received_words.now = omega (arith, same, place, ap length whole.placed) in
      let one : s.spot.received + 1 ≡ cond (ltb r.spot.received m.work.receive) (r.spot.received + 1) r.spot.received =
      rw (same, ap (ltb r.spot.received) er ∙ lt-ltb r.spot.received p.receive l) refl in
      let got : u.spot.received ≡ s.spot.received + 1 =
      x.received ∙ rw (lt-ltb s.spot.received (length s.received_words.now) stored) refl in
      subst (λ (y : Transfer). At due_access resumed old olds m y u)
      (sym (ap (λ (g : ℕ). turn_at Rx sent g m) (got ∙ one)))
      (accessed due_access resumed old olds m (at Receive (here m sent) m.reset) s u (ReceiveWord s.spot.received) v k' x
      (ap (λ (g : ℕ). ReceiveWord g) (sym same)) (lt-leb (length s.script.now) s.spot.used fits) h')

  -- a side that has ended is passed over
  pub send_ends : (sent : ℕ) → p.send ≤ sent → Onward p (turn Tx sent) r (turn Rx sent) r
  send_ends sent l m old olds es er h =
      subst (λ (y : Transfer). At due_access resumed old olds m y r) (ended (ap (ltb sent) es ∙ le-ltb sent p.send l)) h
    where
      ended : ltb sent m.work.send ≡ false → turn_at Tx sent r.spot.received m ≡ turn_at Rx sent r.spot.received m
      ended e = rw e

  pub receive_ends : (sent : ℕ) → p.receive ≤ r.spot.received → Onward p (turn Rx sent) r (turn Tx sent) r
  receive_ends sent l m old olds es er h =
      subst (λ (y : Transfer). At due_access resumed old olds m y r)
      (ended (ap (ltb r.spot.received) er ∙ le-ltb r.spot.received p.receive l)) h
    where
      ended : ltb r.spot.received m.work.receive ≡ false → turn_at Rx sent r.spot.received m ≡ turn_at Tx sent r.spot.received m
      ended e = rw e

pub onward_on : (p : Plan) (t u v : Turn) (r s x : Running) → Onward p t r u s → Onward p u s v x → Onward p t r v x
onward_on p t u v r s x h k m old olds es er y = k m old olds es er (h m old olds es er y)

-- what a poll showed, by the test of it
pub as_unready : (d : Direction) (r s : Running) (b : Bool) → b ≡ false → Whole d r s (ready_or b) → Whole d r s Unready
as_unready d r s b e h = subst (λ (x : Bool). Whole d r s (ready_or x)) e h

pub as_ready : (d : Direction) (r s : Running) (b : Bool) → b ≡ true → Whole d r s (ready_or b) → Whole d r s Ready
as_ready d r s b e h = subst (λ (x : Bool). Whole d r s (ready_or x)) e h

-- what a wait came to, by the test of it
pub uncommanded : (x : Option (Unit {0})) (t : Transfer) (b : Bool) → is_some x ≡ not b → b ≡ true → command_out x t ≡ t
uncommanded None t b e h = refl
uncommanded (Some y) t true e h = cc
uncommanded (Some y) t false e h = cc

pub was_commanded : (x : Option (Unit {0})) (t : Transfer) (got : ℕ) (b : Bool) → is_some x ≡ not b → b ≡ false → got ≡ 0
    → command_out x t ≡ turn_at Tx 0 got t
was_commanded None t got true e h z = cc
was_commanded None t got false e h z = cc
was_commanded (Some y) t got b e h z = ap (λ (g : ℕ). turn_at Tx 0 g t) (sym z)
