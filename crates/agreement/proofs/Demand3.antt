-- DEMAND 3, whole: of every pair of boards that fit, every list of events from fresh.
-- Assumes nothing.
use Prim.Native.Nat.{ℕ, ◌+◌, ◌*◌, ◌^◌, ◌<◌}
use mathlib.Core.Bool.{Bool, true, false, ◌||◌}
use mathlib.Core.List.{List, [], ◌∷◌, ◌++◌}
use mathlib.Core.Path.{◌≡◌, refl, sym, ap, ap₂, ◌∙◌, subst}
use native.Mathlib.Omega.{arith}
use lib.Dec.{eqb}
use lib.ListN.{length, get_or}
use Rattle.words.specs.declared.order.BitOrder.{BitOrder}
use Rattle.words.specs.Buffer.{word_count, word_at, tabulate, pack_words, unpack_words}
use Rattle.words.specs.Command.{frame_accepted}
use Rattle.words.specs.Word.{laid}
use Rattle.words.proofs.WordLaws.{Elements}
use Rattle.words.proofs.BufferLaws.{tabulate_same}
use Rattle.manual.specs.declared.Register.TheVariants.{TCR}
use Rattle.sequences.specs.declared.access.Access.TheVariants.{Write, Send, Receive, Done}
use Rattle.std.specs.Prelude.{Ok}
use Rattle.machine.specs.Transfer.{due_access}
use Rattle.agreement.specs.declared.event.Event.{Event}
use Rattle.agreement.specs.declared.event.Side.TheVariants.{Gate, Antenna}
use Rattle.agreement.specs.Start.{Start, element_bits, started, total, frame_words, accepted, unfit, Job, job}
use Rattle.agreement.specs.End.{End}
use Rattle.agreement.specs.Events.{Pair, happened, after, fresh_pair, pair_after}
use Rattle.agreement.specs.Tally.{nothing, tally}
use Rattle.agreement.specs.Agreement.{OkTwice, buffer_of, Holds, Finish, Agreement, seen}
use Rattle.agreement.proofs.EndFacts.{own, ok_unhurt, ok_empty, ok_received}
use Rattle.agreement.proofs.EndFacts.{receives_below, sends_below, command_alone, shallow_empty}
use Rattle.agreement.proofs.PairFacts.{Both, both_after}
use Rattle.agreement.proofs.FinishFacts.{finish}
use Rattle.std.proofs.lemmas.List.{nil_from_length}
use Rattle.agreement.proofs.StartFacts.{read_within, own_words, keeps, good_fresh, laid_words, Fit, fit}

-- a list of events, and then more
after_more : (j k : Job) (p : Pair) (vs ws : List Event) → after j k p (vs ++ ws) ≡ after j k (after j k p vs) ws
unfolding after
after_more j k p [] ws = refl
after_more j k p (v ∷ vs) ws = after_more j k (happened j k p v) vs ws

-- the words of one board are those that the other unpacks
same_words : (g a : Start) → Fit g a
    → tabulate (frame_words g) (own (job a)) ≡ pack_words g.board.driver.order (element_bits g) (total g) (started a)
same_words g a f =
    tabulate_same (frame_words g) (own (job a)) (word_at g.board.driver.order (element_bits g) (total g) (started a))
    (λ i l.
    own_words a i
    ∙ alike g.board.driver.order a.board.driver.order (element_bits g) (element_bits a) (total g) (total a) i
    f.order f.width f.length)
  where
    alike : (o p : BitOrder) (k l m n i : ℕ) → o ≡ p → k ≡ l → m ≡ n → word_at p l n (started a) i ≡ word_at o k m (started a) i
    alike o p k l m n i eo ek em = cc

-- both have had Ok twice: a board's read buffer holds what the other started with
holds : (g a : Start) → Fit g a → Elements (element_bits a) (started a) → (x : End)
    → x.received ≡ tabulate (frame_words g) (own (job a)) → Holds g a (buffer_of g x)
holds g a f small x e i h =
    ap (λ (rs : List ℕ). get_or (laid (unpack_words g.board.driver.order (element_bits g) (total g) rs) g.read) i 0)
    (e ∙ same_words g a f)
    ∙ laid_words g.board.driver.order g.board.width (total g) (started a) g.read
    (subst (λ (k : ℕ). Elements k (started a)) (sym f.width) small) (read_within g) i h

turned : (g a : Start) → Fit g a → Fit a g
turned g a f =
    record {
      gate_small = f.antenna_small;
      antenna_small = f.gate_small;
      width = sym f.width;
      order = sym f.order;
      length = sym f.length;
    }

same_count : (g a : Start) → Fit g a → frame_words a ≡ frame_words g
same_count g a f = ap₂ word_count (sym f.width) (sym f.length)

same_accepted : (g a : Start) → Fit g a → accepted a ≡ accepted g
same_accepted g a f = ap₂ (λ (k n : ℕ). eqb n 0 || frame_accepted (k * n)) (sym f.width) (sym f.length)

module _ (g a : Start) (f : Fit g a) (vs : List Event) where
  abbrev n : ℕ
  n = frame_words g

  abbrev accepts : Bool
  accepts = accepted g

  abbrev after_all : Pair
  after_all = pair_after g a vs

  abbrev Known : ℕ → Type 0
  Known c =
      Both n accepts (job g) (job a) f.gate_small f.antenna_small (keeps g) (keeps a) c (tally Gate g a vs)
      (tally Antenna g a vs) after_all

  known : (c : ℕ) × Known c
  known =
      both_after n accepts (job g) (job a) f.gate_small f.antenna_small (keeps g) (keeps a) 0 nothing nothing (fresh_pair g a) vs
      (record {
        gate = good_fresh g n accepts (own (job a)) 0 refl refl;
        antenna = good_fresh a n accepts (own (job g)) 0 (same_count g a f) (same_accepted g a f);
        clean = refl;
      })

  gate_unhurt : OkTwice (seen after_all.gate) → (tally Gate g a vs).lost + (tally Gate g a vs).made_up ≡ 0
  gate_unhurt h =
      let k = known in
      ok_unhurt n accepts (job g) (own (job a)) k.0 (tally Antenna g a vs).made_up (tally Gate g a vs)
      after_all.gate k.1.gate h

  antenna_unhurt : OkTwice (seen after_all.antenna) → (tally Antenna g a vs).lost + (tally Antenna g a vs).made_up ≡ 0
  antenna_unhurt h =
      let k = known in
      ok_unhurt n accepts (job a) (own (job g)) k.0 0 (tally Antenna g a vs) after_all.antenna k.1.antenna h

  gate_received_lem : OkTwice (seen after_all.gate) → OkTwice (seen after_all.antenna)
      → after_all.gate.received ≡ tabulate (frame_words g) (own (job a))
  gate_received_lem h h' =
      let k = known in
      ok_received n accepts (job g) (own (job a)) k.0 (tally Antenna g a vs).made_up (tally Gate g a vs) after_all.gate
      k.1.gate h (omega (arith, antenna_unhurt h'))

  antenna_received_lem : OkTwice (seen after_all.antenna) → after_all.antenna.received ≡ tabulate (frame_words a) (own (job g))
  antenna_received_lem h =
      let k = known in
      ok_received n accepts (job a) (own (job g)) k.0 0 (tally Antenna g a vs) after_all.antenna k.1.antenna h refl
      ∙ ap (λ (i : ℕ). tabulate i (own (job g))) (sym (same_count g a f))

  -- a word is received only while some are to come
  pub gate_receives : (i : ℕ) → due_access after_all.gate.transfer ≡ Receive i
      → (accepted g ≡ true) × (length after_all.gate.received < frame_words g)
  gate_receives i h =
      let k = known in
      let x = after_all.gate in
      receives_below n accepts (job g) (own (job a)) k.0 k.0 (tally Antenna g a vs).made_up (tally Gate g a vs)
      x.transfer.phase x.transfer.work x.transfer.reset x.flush x.received x.wire i
      k.1.gate.now h

  pub antenna_receives : (i : ℕ) → due_access after_all.antenna.transfer ≡ Receive i
      → (accepted a ≡ true) × (length after_all.antenna.received < frame_words a)
  antenna_receives i h =
      let k = known in
      let x = after_all.antenna in
      let r =
      receives_below n accepts (job a) (own (job g)) k.0 k.0 0 (tally Antenna g a vs) x.transfer.phase
      x.transfer.work x.transfer.reset x.flush x.received x.wire i k.1.antenna.now h in
      (same_accepted g a f ∙ r.0, subst (λ (m : ℕ). length x.received < m) (sym (same_count g a f)) r.1)

  -- and one is sent only while some are to go, and never with exponent 0
  pub gate_sends : (i : ℕ) → due_access after_all.gate.transfer ≡ Send i
      → (accepted g ≡ true) × (i < frame_words g) × (0 < g.board.exponent)
  gate_sends i h =
      let k = known in
      let x = after_all.gate in
      sends_below n accepts (job g) (own (job a)) k.0 k.0 (tally Antenna g a vs).made_up (tally Gate g a vs)
      x.transfer.phase x.transfer.work x.transfer.reset x.flush x.received x.wire i
      k.1.gate.now h

  pub antenna_sends : (i : ℕ) → due_access after_all.antenna.transfer ≡ Send i
      → (accepted a ≡ true) × (i < frame_words a) × (0 < a.board.exponent)
  antenna_sends i h =
      let k = known in
      let x = after_all.antenna in
      let r =
      sends_below n accepts (job a) (own (job g)) k.0 k.0 0 (tally Antenna g a vs) x.transfer.phase
      x.transfer.work x.transfer.reset x.flush x.received x.wire i k.1.antenna.now h in
      (same_accepted g a f ∙ r.0, subst (λ (m : ℕ). i < m) (sym (same_count g a f)) r.1, r.2)

  -- A COMMAND IS ONLY EVER WRITTEN INTO AN EMPTY QUEUE
  pub gate_command_first : (v : ℕ) → due_access after_all.gate.transfer ≡ Write TCR v
      → after_all.gate.wire.transmit ≡ []
  gate_command_first v h =
      let k = known in
      let x = after_all.gate in
      nil_from_length x.wire.transmit
      (command_alone n accepts (job g) (own (job a)) k.0 k.0 (tally Antenna g a vs).made_up (tally Gate g a vs)
      x.transfer.phase x.transfer.work x.transfer.reset x.flush x.received x.wire v
      k.1.gate.now h)

  pub antenna_command_first : (v : ℕ) → due_access after_all.antenna.transfer ≡ Write TCR v
      → after_all.antenna.wire.transmit ≡ []
  antenna_command_first v h =
      let k = known in
      let x = after_all.antenna in
      nil_from_length x.wire.transmit
      (command_alone n accepts (job a) (own (job g)) k.0 k.0 0 (tally Antenna g a vs) x.transfer.phase
      x.transfer.work x.transfer.reset x.flush x.received x.wire v k.1.antenna.now h)

  -- THE BOUND OF (c) IS SHARP: with exponent 0 a transfer answers Ok only where there is no word to send
  pub gate_shallow : g.board.exponent ≡ 0 → due_access after_all.gate.transfer ≡ Done (Ok tt) → frame_words g ≡ 0
  gate_shallow l h =
      let k = known in
      let x = after_all.gate in
      shallow_empty n accepts (job g) (own (job a)) k.0 k.0 (tally Antenna g a vs).made_up (tally Gate g a vs)
      x.transfer.phase x.transfer.work x.transfer.reset x.flush x.received x.wire k.1.gate.now h l

  pub antenna_shallow : a.board.exponent ≡ 0 → due_access after_all.antenna.transfer ≡ Done (Ok tt) → frame_words a ≡ 0
  antenna_shallow l h =
      let k = known in
      let x = after_all.antenna in
      same_count g a f
      ∙ shallow_empty n accepts (job a) (own (job g)) k.0 k.0 0 (tally Antenna g a vs) x.transfer.phase
      x.transfer.work x.transfer.reset x.flush x.received x.wire k.1.antenna.now h l

-- (c)
pub finishes : (g a : Start) → unfit g a ≡ false → (vs : List Event)
    → (tally Gate g a vs).flags + (tally Antenna g a vs).flags ≡ 0 → accepted g ≡ true
    → 1 < 2 ^ g.board.exponent → 1 < 2 ^ a.board.exponent → Finish g a vs
finishes g a fits vs calm ok eg ea =
    let f = fit g a fits in
    let k = known g a f vs in
    let r =
    finish (frame_words g) (accepted g) (job g) (job a) f.gate_small f.antenna_small (keeps g) (keeps a) (tally Gate g a vs)
    (tally Antenna g a vs) ok
    eg ea (omega (arith, calm)) (omega (arith, calm))
    (frame_words g) k.0 (pair_after g a vs) (omega arith) k.1 in
    record {
      more = r.events;
      plain = r.plain;
      gate = subst (λ (p : Pair). OkTwice (seen p.gate)) (sym (after_more (job g) (job a) (fresh_pair g a) vs r.events)) r.gate;
      antenna =
          subst (λ (p : Pair). OkTwice (seen p.antenna))
          (sym (after_more (job g) (job a) (fresh_pair g a) vs r.events)) r.antenna;
    }

-- DEMAND 3
pub agreement : (g a : Start) → unfit g a ≡ false → Elements (element_bits g) (started g)
    → Elements (element_bits a) (started a) → (vs : List Event)
    → Agreement g a vs (seen (pair_after g a vs).gate) (seen (pair_after g a vs).antenna) (buffer_of g (pair_after g a vs).gate)
    (buffer_of a (pair_after g a vs).antenna)
agreement g a fits small-g small-a vs =
    let f = fit g a fits in
    let k = known g a f vs in
    record {
      gate_holds = λ h h'. holds g a f small-a (pair_after g a vs).gate (gate_received_lem g a f vs h h');
      antenna_holds = λ h h'. holds a g (turned g a f) small-g (pair_after g a vs).antenna (antenna_received_lem g a f vs h');
      gate_empty =
          λ h h'.
          ok_empty (frame_words g) (accepted g) (job g) (own (job a)) k.0 (tally Antenna g a vs).made_up (tally Gate g a vs)
          (pair_after g a vs).gate k.1.gate h;
      antenna_empty =
          λ h h'.
          ok_empty (frame_words g) (accepted g) (job a) (own (job g)) k.0 0 (tally Antenna g a vs)
          (pair_after g a vs).antenna k.1.antenna h';
      gate_tells = λ h ok. omega (arith, h, gate_unhurt g a f vs ok);
      antenna_tells = λ h ok. omega (arith, h, antenna_unhurt g a f vs ok);
      finishes = finishes g a fits vs;
    }
