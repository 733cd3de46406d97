-- The pair entry, from what its parts promise.
-- Assumes nothing.
use Rattle.std.proofs.Common.{ℕ, ◌≤◌, Bool, true, false, cond, ◌&&◌, List, [], ◌≡◌, refl, sym, ap, ap₂, ◌∙◌, subst, Ok, Err, ltb, length, get_or, replicate, arith}
use Rattle.std.proofs.lemmas.List.{length-replicate}
use Rattle.words.specs.declared.order.BitOrder.{BitOrder}
use Rattle.words.specs.Buffer.{word_at, pack_words, unpack_words, cut_word}
use Rattle.words.specs.Width.{width_bits}
use Rattle.words.specs.Word.{laid}
use Rattle.words.proofs.BufferLaws.{holds_one}
use Rattle.words.proofs.WordLaws.{Elements}
use Rattle.words.proofs.LaidLaws.{in_place_word, packed_at}
use Rattle.machine.specs.declared.flush.Flush.TheVariants.{Status}
use Rattle.machine.specs.declared.transfer.Transfer.{Transfer}
use Rattle.runs.specs.Drive.{word_in}
use Rattle.transfers.specs.declared.begin.Ways.TheVariants.{Both}
use Rattle.transfers.specs.Transfers.{Plan, begun, separate_plan, in_place_plan}
use Rattle.transfers.specs.Begin.{length_plan}
use Rattle.transfers.proofs.TransferLaws.{blank_at}
use Rattle.agreement.specs.declared.board.Board.{Board}
use Rattle.agreement.specs.Start.{Start, element_bits, started, total, frame_words, accepted, unequal, unfit, Job, job}
use Rattle.agreement.specs.End.{fresh_wire, fresh_registers, end, fresh_end}
use Rattle.agreement.specs.Events.{Pair, pair, fresh_pair, pair_after}
use Rattle.agreement.specs.Agreement.{Seen, seen, buffer_of, Agreement}
use Rattle.agreement.specs.Codes.{events_of}
use Rattle.agreement.proofs.Demand3.{agreement}
use Rattle.agreement.proofs.StartFacts.{equal, fit}
use Rattle.std.proofs.lemmas.Bool.{or_parts}
use Rattle.bus.specs.declared.begin.Entrant.{Entrant}
use Rattle.bus.specs.declared.pair.Peers.{Peers}
use Rattle.bus.specs.declared.trial.Outcome.{Outcome}
use Rattle.bus.specs.declared.trial.Unfit.{Unfit}
use Rattle.bus.specs.Begin.{unpaired_by}
use Rattle.bus.specs.Held.{end_of, fresh_of, entrant_job, pair_of, JobFits, Linked, Prepared, Ran}
use Rattle.bus.specs.View.{state_of}
use Rattle.bus.specs.Trial.{start_of, unpaired, trial_number, TrialLeft, trial_left, trial_of, Tried}
use Rattle.bus.proofs.BeginLaws.{begun_is, few_words}

-- WHAT A BOARD GOES BY that enters with these buffers: its words where they are sent
module _ (b : Entrant) (read write : List ℕ) (ready : Prepared (width_bits b.board.width) b read write) where
  abbrev s : Start
  s = start_of b.board read write

  abbrev o : BitOrder
  o = b.board.driver.order

  packed : accepted s ≡ true → (i : ℕ) → get_or b.send i 0 ≡ word_at o (element_bits s) (total s) (started s) i
  packed ok i =
      ap (λ (xs : List ℕ). get_or xs i 0)
      (ready.packed ∙ ap (λ (n : ℕ). laid (pack_words o (element_bits s) n (started s)) (replicate {A = ℕ} 128 0)) ready.length)
      ∙ packed_at o (element_bits s) (total s) i (started s) (replicate {A = ℕ} 128 0) (holds_one b.board.width) (blank_at 128)
      (subst (λ (m : ℕ). frame_words s ≤ m) (sym (length-replicate {A = ℕ} 128 0)) (few_words b.board.width (total s) ok))

  abbrev plan_by : Bool → Plan
  plan_by p = cond p (in_place_plan (element_bits s) b.board.driver read) (separate_plan (element_bits s) b.board.driver read write)

  word_sent : accepted s ≡ true → (rs : List ℕ) (i : ℕ) → (entrant_job b).words rs i ≡ (job s).words rs i
  word_sent ok rs i =
      ap (λ (n : ℕ). word_in (record { width = b.board.width; total = n; inplace = b.board.inplace }) b.send rs (length rs) i)
      ready.length
      ∙ by_place b.board.inplace (packed ok i)
    where
      by_place : (p : Bool) → get_or b.send i 0 ≡ word_at o (element_bits s) (plan_by p).total (cond p read write) i
          → cond (p && ltb i (length rs)) (cut_word (element_bits s) (plan_by p).total i (get_or rs i 0)) (get_or b.send i 0)
          ≡ (plan_by p).words rs i
      by_place true h =
          ap (λ (v : ℕ). cond (ltb i (length rs)) (cut_word (element_bits s) (length read) i (get_or rs i 0)) v) h
          ∙ sym (in_place_word o (element_bits s) (length read) i rs read refl)
      by_place false h = h

  pub job_fits : JobFits s (entrant_job b)
  job_fits = record { exponent = refl; words = word_sent }

-- AT FRESH
fresh_end_lem : (b : Entrant) (read write : List ℕ) → b.total ≡ total (start_of b.board read write)
    → fresh_of b ≡ fresh_end (start_of b.board read write)
fresh_end_lem b read write en =
    let k = width_bits b.board.width in
    ap (λ (u : Transfer). end u Status [] fresh_wire fresh_registers)
    (ap (λ (n : ℕ). begun k b.board.driver (length_plan k Both n)) en ∙ sym (begun_is (start_of b.board read write)))

-- NUMBER 9: boards that are not refused have the width of their buffers, and fit
pub not_refused : (k : ℕ) (s t : Start) → unpaired k s t ≡ false → (element_bits s ≡ k) × (unfit s t ≡ false)
not_refused k s t h =
    let both = or_parts (unequal (element_bits s) k) (unfit s t) h in
    (equal (element_bits s) k both.0, both.1)

-- WHAT THE RUN OVER WORDS LEAVES, of boards that are refused and of boards that are not
module _ (k : ℕ) (g a : Entrant) (gr gw ar aw : List ℕ) (pg : Prepared k g gr gw) (pa : Prepared k a ar aw) where
  abbrev gate_start : Start
  gate_start = start_of g.board gr gw

  abbrev antenna_start : Start
  antenna_start = start_of a.board ar aw

  told : {b : Bool} → b ≡ unpaired_by k g.board a.board g.total a.total → unpaired k gate_start antenna_start ≡ b
  told h = ap₂ (unpaired_by k g.board a.board) (sym pg.length) (sym pa.length) ∙ sym h

  pub started_pair : pair (fresh_of g) (fresh_of a) ≡ fresh_pair gate_start antenna_start
  started_pair = ap₂ pair (fresh_end_lem g gr gw pg.length) (fresh_end_lem a ar aw pa.length)

  -- both jobs, of boards that are not refused
  pub linked : {jg ja : Job} → false ≡ unpaired_by k g.board a.board g.total a.total → jg ≡ entrant_job g → ja ≡ entrant_job a
      → Linked gate_start antenna_start jg ja
  linked {jg} {ja} h eg ea =
      let fits = not_refused k gate_start antenna_start (told h) in
      let prepared = subst (λ (n : ℕ). Prepared n a ar aw) (sym fits.0 ∙ (fit gate_start antenna_start fits.1).width) pa in
      record {
        fits = fits.1;
        gate =
            subst (λ (j : Job). JobFits gate_start j) (sym eg)
            (job_fits g gr gw (subst (λ (n : ℕ). Prepared n g gr gw) (sym fits.0) pg));
        antenna = subst (λ (j : Job). JobFits antenna_start j) (sym ea) (job_fits a ar aw prepared);
      }

  pub ran_refused : (events : List ℕ) (x : Peers) (e : Unfit) → true ≡ unpaired_by k g.board a.board g.total a.total
      → pair_of x ≡ pair (fresh_of g) (fresh_of a) → Ran k gate_start antenna_start events (Err e) x
  ran_refused events x e h came = record { number = rw (told h); ends = rw (told h) (came ∙ started_pair) }

  pub ran_events : (events : List ℕ) (x : Peers) (e : Unit {0}) → false ≡ unpaired_by k g.board a.board g.total a.total
      → pair_of x ≡ pair_after gate_start antenna_start (events_of events) → Ran k gate_start antenna_start events (Ok e) x
  ran_events events x e h came = record { number = rw (told h); ends = rw (told h) came }

-- DEMAND 3 of what the code holds
pub agreement_left : (g a : Start) → unfit g a ≡ false → Elements (element_bits g) (started g)
    → Elements (element_bits a) (started a) → (bytes : List ℕ) (x y : Seen) (gate_buffer antenna_buffer : List ℕ)
    → x ≡ seen (pair_after g a (events_of bytes)).gate → y ≡ seen (pair_after g a (events_of bytes)).antenna
    → gate_buffer ≡ buffer_of g (pair_after g a (events_of bytes)).gate → antenna_buffer ≡ buffer_of a (pair_after g a (events_of bytes)).antenna
    → Agreement g a (events_of bytes) x y gate_buffer antenna_buffer
agreement_left g a fits small-g small-a bytes x y gb ab ex ey eg ea =
    let vs = events_of bytes in
    let p = pair_after g a vs in
    subst (λ (u : Seen). Agreement g a vs u y gb ab) (sym ex)
    (subst (λ (u : Seen). Agreement g a vs (seen p.gate) u gb ab) (sym ey)
    (subst (λ (b : List ℕ). Agreement g a vs (seen p.gate) (seen p.antenna) b ab) (sym eg)
    (subst (λ (b : List ℕ). Agreement g a vs (seen p.gate) (seen p.antenna) (buffer_of g p.gate) b) (sym ea)
    (agreement g a fits small-g small-a vs)))
    )

-- THE ENTRY, at every width: from what its parts promise to the whole
left_eq : {n n' : ℕ} {x x' y y' : Seen} {g g' a a' : List ℕ} → n ≡ n' → x ≡ x' → y ≡ y' → g ≡ g' → a ≡ a'
    → ◌≡◌ {A = TrialLeft} (record { number = n; gate = x; antenna = y; gate_read = g; antenna_read = a })
    (record { number = n'; gate = x'; antenna = y'; gate_read = g'; antenna_read = a' })
left_eq a b c d e = cc

started_small : (k : ℕ) (b : Board) (read write : List ℕ) → width_bits b.width ≡ k → Elements k read → Elements k write
    → Elements (element_bits (start_of b read write)) (started (start_of b read write))
started_small k b read write e hr hw = subst (λ (n : ℕ). Elements n (cond b.inplace read write)) (sym e) (by_place b.inplace)
  where
    by_place : (p : Bool) → Elements k (cond p read write)
    by_place true = hr
    by_place false = hw

module _ (k : ℕ) (g a : Entrant) (gr gw ar aw events : List ℕ) (r : Outcome) (x : Peers) (gl al : List ℕ)
    (pg : Prepared k g gr gw) (pa : Prepared k a ar aw)
    (ran : Ran k (start_of g.board gr gw) (start_of a.board ar aw) events r.result x)
    (sg : state_of r.gate ≡ seen (end_of x.gate)) (sa : state_of r.antenna ≡ seen (end_of x.antenna))
    (hg : gl ≡ laid (unpack_words g.board.driver.order k g.total (end_of x.gate).received) gr)
    (ha : al ≡ laid (unpack_words a.board.driver.order k a.total (end_of x.antenna).received) ar) where
  abbrev ours : Start
  ours = start_of g.board gr gw

  abbrev theirs : Start
  theirs = start_of a.board ar aw

  -- both ends, by the test for number 9
  abbrev ends : Bool → Pair
  ends b = cond b (fresh_pair ours theirs) (pair_after ours theirs (events_of events))

  number_is : {b : Bool} → unpaired k ours theirs ≡ b → trial_number r.result ≡ cond b 9 0
  number_is h = ran.number ∙ ap (λ (b : Bool). cond b 9 0) h

  came : {b : Bool} → unpaired k ours theirs ≡ b → pair_of x ≡ ends b
  came h = ran.ends ∙ ap ends h

  gate_is : {b : Bool} → unpaired k ours theirs ≡ b → state_of r.gate ≡ seen (ends b).gate
  gate_is h = sg ∙ ap (λ (p : Pair). seen p.gate) (came h)

  antenna_is : {b : Bool} → unpaired k ours theirs ≡ b → state_of r.antenna ≡ seen (ends b).antenna
  antenna_is h = sa ∙ ap (λ (p : Pair). seen p.antenna) (came h)

  -- the words that came in as elements over the buffer
  gate_holds : {b : Bool} → unpaired k ours theirs ≡ b → gl ≡ laid (unpack_words g.board.driver.order k (total ours) (ends b).gate.received) gr
  gate_holds h =
      hg ∙ ap₂ (λ (i : ℕ) (p : Pair). laid (unpack_words g.board.driver.order k i p.gate.received) gr) pg.length (came h)

  antenna_holds : {b : Bool} → unpaired k ours theirs ≡ b
      → al ≡ laid (unpack_words a.board.driver.order k (total theirs) (ends b).antenna.received) ar
  antenna_holds h =
      ha ∙ ap₂ (λ (i : ℕ) (p : Pair). laid (unpack_words a.board.driver.order k i p.antenna.received) ar) pa.length (came h)

  left_refused : unpaired k ours theirs ≡ true → trial_left r gl al ≡ trial_of k g.board a.board gr gw ar aw events
  left_refused h = left_eq (number_is h) (gate_is h) (antenna_is h) (gate_holds h) (antenna_holds h) ∙ rw h

  module _ (h : unpaired k ours theirs ≡ false) where
    fits : unfit ours theirs ≡ false
    fits = (not_refused k ours theirs h).1

    gate_width : element_bits ours ≡ k
    gate_width = (not_refused k ours theirs h).0

    antenna_width : element_bits theirs ≡ k
    antenna_width = sym (fit ours theirs fits).width ∙ gate_width

    gate_buffer : gl ≡ buffer_of ours (ends false).gate
    gate_buffer =
        gate_holds h
        ∙ ap (λ (i : ℕ). laid (unpack_words g.board.driver.order i (total ours) (ends false).gate.received) gr) (sym gate_width)

    antenna_buffer : al ≡ buffer_of theirs (ends false).antenna
    antenna_buffer =
        antenna_holds h
        ∙ ap (λ (i : ℕ). laid (unpack_words a.board.driver.order i (total theirs) (ends false).antenna.received) ar) (sym antenna_width)

    left_run : trial_left r gl al ≡ trial_of k g.board a.board gr gw ar aw events
    left_run = left_eq (number_is h) (gate_is h) (antenna_is h) gate_buffer antenna_buffer ∙ rw h

  -- ALL OF IT
  pub tried : {gate antenna : Board} → g.board ≡ gate → a.board ≡ antenna → Elements k gr → Elements k gw → Elements k ar → Elements k aw
      → Tried k gate antenna gr gw ar aw events r gl al
  tried {gate} {antenna} eg ea small-gr small-gw small-ar small-aw =
      subst (λ (b : Board). Tried k b antenna gr gw ar aw events r gl al) eg
      (subst (λ (b : Board). Tried k g.board b gr gw ar aw events r gl al) ea (by_test (unpaired k ours theirs) refl))
    where
      by_test : (b : Bool) → unpaired k ours theirs ≡ b → Tried k g.board a.board gr gw ar aw events r gl al
      by_test true h =
          record { same = left_refused h; agreement = λ z. let q : ◌≡◌ {A = ℕ} 9 0 = sym (number_is h) ∙ z in absurd (omega (arith, q)) }
      by_test false h = record {
        same = left_run h;
        agreement =
            λ z.
            agreement_left ours theirs (fits h) (started_small k g.board gr gw (gate_width h) small-gr small-gw)
            (started_small k a.board ar aw (antenna_width h) small-ar small-aw)
            events (state_of r.gate) (state_of r.antenna) gl al (gate_is h) (antenna_is h) (gate_buffer h) (antenna_buffer h);
      }
