-- A list of events as the code runs it.
-- Assumes nothing.
use Rattle.std.proofs.Common.{ℕ, zero, suc, ◌+◌, ◌<◌, Bool, true, List, [], ◌∷◌, ◌≡◌, refl, sym, ap, ◌∙◌, subst, length, get_or, take, add-one, arith, length-take-le}
use Rattle.manual.specs.declared.Register.{Register}
use Rattle.manual.specs.declared.Register.TheVariants.{PARAM, CR, SR, IER, DER, CFGR0, CFGR1, DMR0}
use Rattle.manual.specs.declared.Register.TheVariants.{DMR1, CCR, FCR, FSR, TCR, TDR, RSR, RDR}
use Rattle.sequences.specs.declared.access.Access.{Access}
use Rattle.sequences.specs.declared.access.Access.TheVariants.{Read, Write, Send, Receive, Done}
use Rattle.machine.specs.Transfer.{due_access}
use Rattle.agreement.specs.declared.event.Event.{Event}
use Rattle.agreement.specs.declared.event.Event.TheVariants.{Step, Clock, Noise}
use Rattle.agreement.specs.declared.event.Side.TheVariants.{Gate, Antenna}
use Rattle.agreement.specs.declared.register.Role.TheVariants.{Commands as commands}
use Rattle.agreement.specs.Start.{Start, total, frame_words, accepted, Job, job}
use Rattle.agreement.specs.Codes.{event_of, events_of}
use Rattle.agreement.specs.End.{words_in, role_of, Wire, wire_after, registers_after, End, end_access, stepped}
use Rattle.agreement.specs.Events.{Pair, pair, clocked_by, happened, after, fresh_pair, pair_after}
use Rattle.agreement.proofs.StartFacts.{fit}
use Rattle.agreement.proofs.Demand3.{gate_receives, antenna_receives, gate_sends, antenna_sends}
use Rattle.agreement.proofs.Demand3.{gate_command_first, antenna_command_first}
use Rattle.bus.specs.declared.pair.Peers.{Peers}
use Rattle.bus.specs.declared.peer.Peer.{Peer}
use Rattle.bus.specs.Held.{end_of, pair_of, Idle, Provided, Linked}
use Rattle.bus.proofs.BeginLaws.{few_words}
use Rattle.bus.proofs.QueuedLaws.{nothing_queued}
use Rattle.bus.proofs.PairLaws.{word_due, same_end}

-- one event more
after_last : (j k : Job) (p : Pair) (bytes : List ℕ) (i : ℕ) → i < length bytes
    → after j k p (events_of (take (suc i) bytes)) ≡ happened j k (after j k p (events_of (take i bytes))) (event_of (get_or bytes i 0))
unfolding after
after_last j k p [] i h = absurd (omega arith)
after_last j k p (b ∷ bs) zero h = refl
after_last j k p (b ∷ bs) (suc i) h = after_last j k (happened j k p (event_of b)) bs i (omega arith)

-- only TCR takes commands
command_register : (r : Register) → role_of r ≡ commands → r ≡ TCR
command_register PARAM h = cc
command_register CR h = cc
command_register SR h = cc
command_register IER h = cc
command_register DER h = cc
command_register CFGR0 h = cc
command_register CFGR1 h = cc
command_register DMR0 h = cc
command_register DMR1 h = cc
command_register CCR h = cc
command_register FCR h = cc
command_register FSR h = cc
command_register TCR h = refl
command_register TDR h = cc
command_register RSR h = cc
command_register RDR h = cc

-- what the access that is due needs, of an end that stands where the definition's does
provided : (p : Peer) (b : Start)
    → ((v : ℕ) → due_access (end_of p).transfer ≡ Write TCR v → (end_of p).wire.transmit ≡ [])
    → ((i : ℕ) → due_access (end_of p).transfer ≡ Receive i → (accepted b ≡ true) × (length (end_of p).received < frame_words b))
    → Provided p
provided p b alone receives =
    record { place = room; idle = by_access (end_access p.station.transfer p.station.flush) refl }
  where
    room : (i : ℕ) → end_access p.station.transfer p.station.flush ≡ Receive i → p.received < 128
    room i h =
        let r = receives i (word_due p.station.transfer p.station.flush (Receive i) refl h) in
        omega (arith, length-take-le p.received p.words p.within, r.1, few_words b.board.width (total b) r.0)

    by_access : (a : Access) → end_access p.station.transfer p.station.flush ≡ a → Idle a p.station.port
    by_access (Read r) h = tt
    by_access (Write r v) h = λ (o : role_of r ≡ commands).
        let due : due_access p.station.transfer ≡ Write TCR v =
        word_due p.station.transfer p.station.flush (Write r v) refl h
        ∙ ap (λ (q : Register). Write q v) (command_register r o) in
        nothing_queued p.station.port.commands p.station.port.transmit (alone v due)
    by_access (Send i) h = tt
    by_access (Receive i) h = tt
    by_access (Done z) h = tt

-- A STEP DEPENDS ON THE WORDS only where one is sent
wire_at : (e : ℕ) (u v : ℕ → ℕ) (a : Access) (w : Wire) → ((i : ℕ) → a ≡ Send i → u i ≡ v i) → wire_after e u a w ≡ wire_after e v a w
wire_at e u v (Read r) w h = refl
wire_at e u v (Write r x) w h = refl
wire_at e u v (Send i) w h = ap (λ (n : ℕ). wire_after e (λ k. n) (Send i) w) (h i refl)
wire_at e u v (Receive i) w h = refl
wire_at e u v (Done x) w h = refl

registers_at : (u v : ℕ → ℕ) (a : Access) (g : List ℕ) → registers_after u a g ≡ registers_after v a g
registers_at u v (Read r) g = refl
registers_at u v (Write r x) g = refl
registers_at u v (Send i) g = refl
registers_at u v (Receive i) g = refl
registers_at u v (Done x) g = refl

same_step : (j k : Job) (busy : Bool) (x : End) → j.exponent ≡ k.exponent
    → ((i : ℕ) → due_access x.transfer ≡ Send i → j.words x.received i ≡ k.words x.received i)
    → stepped j busy x ≡ stepped k busy x
unfolding stepped
same_step j k busy x e h =
    same_end refl refl refl
    (wire_at j.exponent (j.words x.received) (k.words x.received) due x.wire
    (λ i q. h i (word_due x.transfer x.flush (Send i) refl q)))
    (registers_at (j.words x.received) (k.words x.received) due x.registers)
    ∙ ap (λ (n : ℕ). stepped (record { exponent = n; words = k.words }) busy x) e
  where
    due : Access
    due = end_access x.transfer x.flush

same_clock : (j k j' k' : Job) (p q : List ℕ) (x : Pair) → j.exponent ≡ j'.exponent → k.exponent ≡ k'.exponent
    → clocked_by j k p q x ≡ clocked_by j' k' p q x
unfolding clocked_by
same_clock j k j' k' [] q x e f = refl
same_clock j k j' k' (v ∷ p) [] x e f = rw (e, f)
same_clock j k j' k' (v ∷ p) (u ∷ q) x e f = rw (e, f)

same_event : (j k j' k' : Job) (p : Pair) (v : Event) → j.exponent ≡ j'.exponent → k.exponent ≡ k'.exponent
    → ((i : ℕ) → due_access p.gate.transfer ≡ Send i → j.words p.gate.received i ≡ j'.words p.gate.received i)
    → ((i : ℕ) → due_access p.antenna.transfer ≡ Send i → k.words p.antenna.received i ≡ k'.words p.antenna.received i)
    → happened j k p v ≡ happened j' k' p v
unfolding happened
same_event j k j' k' p (Step Gate busy) e f g h = ap (λ (x : End). pair x p.antenna) (same_step j j' busy p.gate e g)
same_event j k j' k' p (Step Antenna busy) e f g h = ap (pair p.gate) (same_step k k' busy p.antenna f h)
same_event j k j' k' p Clock e f g h = same_clock j k j' k' (words_in p.gate.wire.transmit) (words_in p.antenna.wire.transmit) p e f
same_event j k j' k' p (Noise Gate d) e f g h = refl
same_event j k j' k' p (Noise Antenna d) e f g h = refl

module _ (g a : Start) (gate_job antenna_job : Job) (l : Linked g a gate_job antenna_job) where
  -- of the pair after some of the events: what both ends need, and the pair after the next event
  pub one_more : (x : Peers) (bytes : List ℕ) (i : ℕ) → i < length bytes → pair_of x ≡ pair_after g a (events_of (take i bytes))
      → (p : Pair)
      → (Provided x.gate → Provided x.antenna → p ≡ happened gate_job antenna_job (pair_of x) (event_of (get_or bytes i 0)))
      → p ≡ pair_after g a (events_of (take (i + 1) bytes))
  one_more x bytes i h e p next =
      let f = fit g a l.fits in
      let vs = events_of (take i bytes) in
      next
      (provided x.gate g
      (subst (λ (q : Pair). (v : ℕ) → due_access q.gate.transfer ≡ Write TCR v → q.gate.wire.transmit ≡ []) (sym e)
      (λ v d. gate_command_first g a f vs v d))
      (subst
      (λ (q : Pair).
      (k : ℕ) → due_access q.gate.transfer ≡ Receive k → (accepted g ≡ true) × (length q.gate.received < frame_words g))
      (sym e) (gate_receives g a f vs)))
      (provided x.antenna a
      (subst (λ (q : Pair). (v : ℕ) → due_access q.antenna.transfer ≡ Write TCR v → q.antenna.wire.transmit ≡ []) (sym e)
      (λ v d. antenna_command_first g a f vs v d))
      (subst
      (λ (q : Pair).
      (k : ℕ) → due_access q.antenna.transfer ≡ Receive k → (accepted a ≡ true) × (length q.antenna.received < frame_words a))
      (sym e) (antenna_receives g a f vs)))
      ∙ ap (λ (q : Pair). happened gate_job antenna_job q (event_of (get_or bytes i 0))) e
      ∙ same_event gate_job antenna_job (job g) (job a) (pair_after g a vs) (event_of (get_or bytes i 0)) l.gate.exponent l.antenna.exponent
      (λ k d. l.gate.words (gate_sends g a f vs k d).0 (pair_after g a vs).gate.received k)
      (λ k d. l.antenna.words (antenna_sends g a f vs k d).0 (pair_after g a vs).antenna.received k)
      ∙ rw (add-one i) (sym (after_last (job g) (job a) (fresh_pair g a) bytes i h))
