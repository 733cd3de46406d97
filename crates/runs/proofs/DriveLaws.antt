-- The run of a transfer as the code makes it: an access more, and its end.
-- Assumes nothing.
use Prim.Native.Nat.{ℕ, ◌+◌, ◌-◌, ◌*◌, ◌<◌, ◌≤◌, min}
use mathlib.Core.Bool.{Bool, true, false, cond}
use mathlib.Core.List.{List, [], ◌∷◌, ◌++◌}
use mathlib.Core.Path.{◌≡◌, refl, sym, ap, ap₂, ◌∙◌}
use native.Mathlib.Nat.{zero-min}
use native.Mathlib.Omega.{arith}
use lib.Dec.{ltb, leb, lit<}
use lib.ListN.{length, get_or, set, take, length-append, length-take}
use lib.Seq.{set_out}
use borrow.Author.Tests.{ltb-true, ltb-false, leb-true, leb-false}
use Rattle.words.specs.Word.{laid}
use Rattle.words.proofs.BufferLaws.{length_laid}
use Rattle.words.proofs.LaidLaws.{laid_last}
use Rattle.manual.specs.declared.Register.{Register}
use Rattle.manual.specs.declared.Register.TheVariants.{PARAM, CR, SR, IER, DER, CFGR0, CFGR1, DMR0}
use Rattle.manual.specs.declared.Register.TheVariants.{DMR1, CCR, FCR, FSR, TCR, TDR, RSR, RDR}
use Rattle.manual.specs.Manual.{offset_of}
use Rattle.sequences.specs.declared.access.Access.{Access}
use Rattle.sequences.specs.declared.access.Access.TheVariants.{Read, Write, Send, Receive, Done}
use Rattle.sequences.specs.Access.{Ending}
use Rattle.std.specs.Prelude.{Err}
use Rattle.sequences.specs.declared.access.RunError.TheVariants.{Limits}
use Rattle.machine.specs.declared.transfer.Transfer.{Transfer}
use Rattle.machine.specs.Transfer.{counted, due_access, resumed}
use Rattle.runs.specs.declared.drive.Driven.{Driven}
use Rattle.runs.specs.declared.drive.Frame.{Frame}
use Rattle.runs.specs.declared.drive.Spot.{Spot}
use Rattle.runs.specs.Run.{Logged, code_of, value_of, uses_of, answer_of, received_after, halted, ending_of}
use Rattle.runs.specs.Run.{times, State, start, step, after_access, limits, log_over, put}
use Rattle.runs.specs.declared.running.Running.{Running}
use Rattle.runs.specs.Drive.{word_in, got_after, words_after, stored, sent_from, words_states}
use Rattle.runs.specs.Drive.{DrivenLeft, driven_left, driven_by, words_run}
use Rattle.runs.specs.Running.{states, Stands, At, Ended, Kept, Accessed}
use Rattle.runs.proofs.RunLaws.{run_add, run_halted, run_last, log_put}

-- STORED WORDS

length_last : (rs : List ℕ) (v : ℕ) → length (rs ++ (v ∷ [])) ≡ length rs + 1
length_last rs v = length-append rs (v ∷ [])

one_more : (n m : ℕ) → min (n + 1) m ≡ counted (min n m) m
one_more n m = by_test (ltb (min n m) m) refl
  where
    by_test : (b : Bool) → ltb (min n m) m ≡ b → min (n + 1) m ≡ cond b (min n m + 1) (min n m)
    by_test true e = let l = ltb-true (min n m) m e in omega arith
    by_test false e = let l = ltb-false (min n m) m e in omega arith

got_after_lem : (a : Access) (v : ℕ) (rs olds : List ℕ)
    → stored (received_after a v rs) olds ≡ got_after a (stored rs olds) (length (laid rs olds))
got_after_lem (Read r) v rs olds = refl
got_after_lem (Write r w) v rs olds = refl
got_after_lem (Send i) v rs olds = refl
got_after_lem (Receive i) v rs olds = rw (length_last rs v, length_laid rs olds) (one_more (length rs) (length olds))
got_after_lem (Done e) v rs olds = refl

set_min : (rs olds : List ℕ) (v : ℕ) → set (laid rs olds) (length rs) v ≡ set (laid rs olds) (stored rs olds) v
set_min rs olds v = by_test (leb (length rs) (length olds)) refl
  where
    by_test : (b : Bool) → leb (length rs) (length olds) ≡ b → set (laid rs olds) (length rs) v ≡ set (laid rs olds) (stored rs olds) v
    by_test true e =
        let l = leb-true (length rs) (length olds) e in
        ap (λ (n : ℕ). set (laid rs olds) n v) (let x : length rs ≡ stored rs olds = omega arith in x)
    by_test false e =
        let l = leb-false (length rs) (length olds) e in
        set_out (laid rs olds) (length rs) v (omega (arith, length_laid rs olds))
        ∙ sym (set_out (laid rs olds) (stored rs olds) v (omega (arith, length_laid rs olds)))

words_after_lem : (a : Access) (v : ℕ) (rs olds : List ℕ) → laid (received_after a v rs) olds ≡ words_after a (laid rs olds) (stored rs olds) v
words_after_lem (Read r) v rs olds = refl
words_after_lem (Write r w) v rs olds = refl
words_after_lem (Send i) v rs olds = refl
words_after_lem (Receive i) v rs olds = laid_last rs v olds ∙ set_min rs olds v
words_after_lem (Done e) v rs olds = refl

pub got_fit : (a : Access) (got places : ℕ) → got ≤ places → got_after a got places ≤ places
got_fit (Read r) got places l = l
got_fit (Write r w) got places l = l
got_fit (Send i) got places l = l
got_fit (Receive i) got places l = by_test (ltb got places) refl
  where
    by_test : (b : Bool) → ltb got places ≡ b → cond b (got + 1) got ≤ places
    by_test true e = let m = ltb-true got places e in omega arith
    by_test false e = l
got_fit (Done e) got places l = l

pub offset_small : (r : Register) → offset_of r < 256
offset_small PARAM = lit< tt
offset_small CR = lit< tt
offset_small SR = lit< tt
offset_small IER = lit< tt
offset_small DER = lit< tt
offset_small CFGR0 = lit< tt
offset_small CFGR1 = lit< tt
offset_small DMR0 = lit< tt
offset_small DMR1 = lit< tt
offset_small CCR = lit< tt
offset_small FCR = lit< tt
offset_small FSR = lit< tt
offset_small TCR = lit< tt
offset_small TDR = lit< tt
offset_small RSR = lit< tt
offset_small RDR = lit< tt

module _ {M : Type 0} (next : M → Access) (resume : M → ℕ → M) (f : Frame) (script send old olds : List ℕ) (t : M) where
  entry : Access → List ℕ → ℕ → Logged
  entry a rs v = record { at = code_of a; value = value_of (sent_from f send olds rs) a v }

  stepped : (u : M) (a : Access) (n : ℕ) (l : List Logged) (rs : List ℕ) → next u ≡ a → halted a n (length script) ≡ false
      → step next resume (sent_from f send olds) script (record { machine = u; used = n; log = l; received = rs })
      ≡ record {
        machine = resume u (answer_of a (get_or script n 0));
        used = n + uses_of a;
        log = l ++ (entry a rs (get_or script n 0) ∷ []);
        received = received_after a (get_or script n 0) rs;
      }
  unfolding step after_access entry
  stepped u a n l rs e h = rw (e, h)

  module _ (u : M) (s : Spot) (log words : List ℕ) (h : Stands next resume f script send old olds t u s log words) where
    abbrev here : State M
    here = states next resume f script send olds t s.made

    -- ONE ACCESS MORE
    module _ (a : Access) (v : ℕ) (due : next u ≡ a) (goes : halted a s.used (length script) ≡ false)
        (ev : v ≡ get_or script s.used 0) where
      abbrev there : State M
      there =
          record {
            machine = resume u (answer_of a v);
            used = s.used + uses_of a;
            log = here.log ++ (entry a here.received v ∷ []);
            received = received_after a v here.received;
          }

      next_state : states next resume f script send olds t (s.made + 1) ≡ there
      next_state =
          run_last next resume (sent_from f send olds) script s.made (start t)
          ∙ ap₂
          (λ (g : M) (m : ℕ).
          step next resume (sent_from f send olds) script
          (record { machine = g; used = m; log = here.log; received = here.received }))
          h.machine h.used
          ∙ stepped u a s.used here.log here.received due goes
          ∙ ap
          (λ (x : ℕ).
          record {
            machine = resume u (answer_of a x);
            used = s.used + uses_of a;
            log = here.log ++ (entry a here.received x ∷ []);
            received = received_after a x here.received;
          })
          (sym ev)

      logged : (log' : List ℕ) → 2 * s.made + 1 < length old
          → log' ≡ put log s.made (code_of a) (value_of (word_in f send words s.received) a v)
          → log' ≡ log_over old there.log
      unfolding entry
      logged log' l e =
          e
          ∙ ap₂ (λ (w : List ℕ) (g : ℕ). put log s.made (code_of a) (value_of (word_in f send w g) a v)) h.placed (sym h.got)
          ∙ ap₂ (λ (x : List ℕ) (m : ℕ). put x m (code_of a) (value_of (sent_from f send olds here.received) a v))
          h.held (sym h.pairs)
          ∙ log_put old here.log (entry a here.received v) (omega (arith, h.pairs))

      pub stands_next : (u' : M) (s' : Spot) (log' words' : List ℕ) → 2 * s.made + 1 < length old → u' ≡ resume u (answer_of a v)
          → s'.made ≡ s.made + 1 → s'.used ≡ s.used + uses_of a → s'.received ≡ got_after a s.received (length words)
          → length log' ≡ length log
          → log' ≡ put log s.made (code_of a) (value_of (word_in f send words s.received) a v)
          → words' ≡ words_after a words s.received v
          → Stands next resume f script send old olds t u' s' log' words'
      stands_next u' s' log' words' l eu em es er en el ew =
          let e : states next resume f script send olds t s'.made ≡ there = ap (states next resume f script send olds t) em ∙ next_state in
          record {
            machine = ap (λ (x : State M). x.machine) e ∙ sym eu;
            used = ap (λ (x : State M). x.used) e ∙ sym es;
            pairs =
                ap (λ (x : State M). length x.log) e
                ∙ length-append here.log (entry a here.received v ∷ [])
                ∙ ap (λ (m : ℕ). m + 1) h.pairs
                ∙ sym em;
            got = ap (λ (x : State M). stored x.received olds) e ∙ got_after_lem a v here.received olds
                ∙ ap₂ (λ (g : ℕ) (w : List ℕ). got_after a g (length w)) h.got (sym h.placed) ∙ sym er;
            size = en ∙ h.size;
            held = logged log' l el ∙ ap (λ (x : State M). log_over old x.log) (sym e);
            placed =
                ew
                ∙ ap₂ (λ (w : List ℕ) (g : ℕ). words_after a w g v) h.placed (sym h.got)
                ∙ sym (words_after_lem a v here.received olds)
                ∙ ap (λ (x : State M). laid x.received olds) (sym e);
          }

    -- THE END: no further access
    pub last_full : (budget : ℕ) → s.made ≤ budget → budget ≤ s.made → states next resume f script send olds t budget ≡ here
    last_full budget l m = ap (states next resume f script send olds t) (let x : budget ≡ s.made = omega arith in x)

    pub last_halted : (budget : ℕ) → s.made ≤ budget → halted (next u) s.used (length script) ≡ true
        → states next resume f script send olds t budget ≡ here
    last_halted budget l stops =
        ap (states next resume f script send olds t) (let x : budget ≡ s.made + (budget - s.made) = omega arith in x)
        ∙ run_add next resume (sent_from f send olds) script s.made (budget - s.made) (start t)
        ∙ run_halted next resume (sent_from f send olds) script (budget - s.made) here
        (ap₂ (λ (g : M) (m : ℕ). halted (next g) m (length script)) h.machine h.used ∙ stops)

-- THE START
pub stands_start : {M : Type 0} (next : M → Access) (resume : M → ℕ → M) (f : Frame) (script send old olds : List ℕ) (t : M)
    → Stands next resume f script send old olds t t (record { made = 0; used = 0; received = 0 }) old olds
unfolding times
stands_start next resume f script send old olds t =
    record { machine = refl; used = refl; pairs = refl; got = zero-min (length olds); size = refl; held = refl; placed = refl }

-- WHAT THE CODE HOLDS
module _ {M : Type 0} (next : M → Access) (resume : M → ℕ → M) (old olds : List ℕ) (t u : M) where
  -- it has gone on to a state that is said of the fields
  pub moved : (r s : Running) (p : Spot) (log words : List ℕ) → Kept r s → s.spot ≡ p → s.log.now ≡ log → s.received_words.now ≡ words
      → Stands next resume r.frame r.script.now r.sent_words.now old olds t u p log words → At next resume old olds t u s
  moved r s p log words k ep el ew h = rw (k.frame, k.script, k.sent_words, ep, el, ew) h

  pub accessed : (r s : Running) (a : Access) (v : ℕ) → Kept r s → Accessed a r s v → next u ≡ a
      → halted a r.spot.used (length r.script.now) ≡ false → At next resume old olds t u r → At next resume old olds t (resume u v) s
  accessed r s a v k x due goes h =
      moved_on (stands_next next resume r.frame r.script.now r.sent_words.now old olds t u r.spot r.log.now r.received_words.now h
      a (get_or r.script.now r.spot.used 0) due goes refl (resume u v) s.spot s.log.now s.received_words.now
      (omega (arith, h.size, x.fits)) (ap (resume u) x.told) x.made x.used x.received x.size x.logged x.placed)
    where
      moved_on : Stands next resume r.frame r.script.now r.sent_words.now old olds t (resume u v) s.spot s.log.now s.received_words.now
          → At next resume old olds t (resume u v) s
      moved_on y = rw (k.frame, k.script, k.sent_words) y

  pub ended_full : (r : Running) (e : Ending) → At next resume old olds t u r → r.budget ≤ r.spot.made → e ≡ ending_of (next u)
      → Ended next resume old olds t u e r
  ended_full r e h m ee = record {
    here = h;
    last = last_full next resume r.frame r.script.now r.sent_words.now old olds t u r.spot r.log.now r.received_words.now h r.budget r.within m;
    ending = ee;
  }

  pub ended_halted : (r : Running) (e : Ending) → At next resume old olds t u r
      → halted (next u) r.spot.used (length r.script.now) ≡ true → e ≡ ending_of (next u) → Ended next resume old olds t u e r
  ended_halted r e h stops ee = record {
    here = h;
    last = last_halted next resume r.frame r.script.now r.sent_words.now old olds t u r.spot r.log.now r.received_words.now h r.budget r.within stops;
    ending = ee;
  }

pub kept_on : {r s u : Running} → Kept r s → Kept s u → Kept r u
kept_on {r} {s} {u} h k = record {
  frame = k.frame ∙ h.frame;
  budget = k.budget ∙ h.budget;
  script = k.script ∙ h.script;
  sent_words = k.sent_words ∙ h.sent_words;
  log = k.log ∙ h.log;
  received_words = k.received_words ∙ h.received_words;
}

-- A TRANSFER THAT HAS ENDED
module _ (f : Frame) (budget : ℕ) (script send old olds : List ℕ) (t u : Transfer) (e : Ending) (r : Running) where
  abbrev come : State Transfer
  come = words_states r.frame r.script.now r.sent_words.now olds t r.spot.made

  spot_come : Ended due_access resumed old olds t u e r
      → r.spot ≡ record { made = length come.log; used = come.used; received = stored come.received olds }
  spot_come h =
      ap₂ (λ (m n : ℕ). record { made = m; used = n; received = r.spot.received }) (sym h.here.pairs) (sym h.here.used)
      ∙ ap (λ (g : ℕ). record { made = length come.log; used = come.used; received = g }) (sym h.here.got)

  pub words_ended : r.frame ≡ f → r.budget ≡ budget → r.script.now ≡ script → r.sent_words.now ≡ send
      → Ended due_access resumed old olds t u e r
      → driven_left (record { ending = e; spot = r.spot }) r.log.now r.received_words.now
      ≡ driven_by old olds (words_states f script send olds t budget)
  unfolding driven_by
  words_ended ef eb es en h =
      ap₂ (λ (l w : List ℕ). driven_left (record { ending = e; spot = r.spot }) l w) h.here.held h.here.placed
      ∙ ap₂ (λ (x : Ending) (p : Spot). driven_left (record { ending = x; spot = p }) (log_over old come.log) (laid come.received olds))
      (h.ending ∙ ap (λ (g : Transfer). ending_of (due_access g)) (sym h.here.machine)) (spot_come h)
      ∙ ap (driven_by old olds) (sym h.last)
      ∙ ap (driven_by old olds) (rw (ef, eb, es, en))

-- THE CALL: number 5, or the run
module _ (t : Transfer) (f : Frame) (budget : ℕ) (script send log olds : List ℕ) where
  pub words_limits : limits budget log ≡ true
      → driven_left (record { ending = Err Limits; spot = record { made = 0; used = 0; received = 0 } }) log olds
      ≡ words_run t f budget script send log olds
  unfolding words_run
  words_limits e = rw e

  pub words_run_lem : limits budget log ≡ false
      → driven_by log olds (words_states f script send olds t budget) ≡ words_run t f budget script send log olds
  unfolding words_run
  words_run_lem e = rw e

-- the words that are stored have places
stored_fits : (b : Bool) (x : Driven) (log' words' log olds : List ℕ) (s : State Transfer)
    → driven_left x log' words'
    ≡ cond b (driven_left (record { ending = Err Limits; spot = record { made = 0; used = 0; received = 0 } }) log olds) (driven_by log olds s)
    → x.spot.received ≤ length words'
unfolding driven_by
stored_fits true x log' words' log olds s e = let r = ap (λ (y : DrivenLeft). y.driven.spot.received) e in omega (arith, r)
stored_fits false x log' words' log olds s e =
    let r = ap (λ (y : DrivenLeft). y.driven.spot.received) e in
    let l = ap (λ (y : DrivenLeft). length y.words) e ∙ length_laid s.received olds in
    omega (arith, r, l)

module _ (t : Transfer) (f : Frame) (budget : ℕ) (script send log olds : List ℕ) {x : Driven} {log' words' : List ℕ}
    (e : driven_left x log' words' ≡ words_run t f budget script send log olds) where
  pub words_stored : x.spot.received ≤ length words'
  unfolding words_run
  words_stored = stored_fits (limits budget log) x log' words' log olds (words_states f script send olds t budget) e

  pub words_length : x.spot.received ≡ length (take x.spot.received words')
  words_length = omega (arith, words_stored, length-take x.spot.received words')
