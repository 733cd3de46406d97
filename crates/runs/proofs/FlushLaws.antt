-- The run of a flush as the loop makes it.
-- Assumes nothing.
use Prim.Native.Nat.{ℕ, ◌≤◌, min}
use mathlib.Core.Bool.{Bool, true, false, cond, ◌||◌}
use mathlib.Core.List.{List, []}
use mathlib.Core.Path.{◌≡◌, refl, sym, ap, ap₂, ◌∙◌, subst}
use native.Mathlib.Omega.{arith}
use lib.ListN.{length}
use lib.Dec.{leb, eqb}
use borrow.Author.Tests.{lt-leb, le-leb, leb-true, leb-false}
use Rattle.std.specs.Prelude.{None, Some, Ok, Err}
use Rattle.manual.specs.declared.Field.TheVariants.{Sr, Fsr}
use Rattle.manual.specs.declared.Fsr.TheVariants.{TXCOUNT}
use Rattle.manual.specs.declared.Register.{Register}
use Rattle.manual.specs.declared.Register.TheVariants.{SR, PARAM}
use Rattle.manual.specs.declared.Sr.TheVariants.{MBF}
use Rattle.manual.specs.Manual.{read_field}
use Rattle.words.specs.declared.transaction.Direction.TheVariants.{Tx, Rx}
use Rattle.words.specs.declared.transaction.LpspiError.TheVariants.{Fifo}
use Rattle.sequences.specs.declared.access.Access.{Access}
use Rattle.sequences.specs.declared.access.Access.TheVariants.{Read}
use Rattle.sequences.specs.declared.access.RunError.TheVariants.{Driver, Stopped, FifoExponent}
use Rattle.sequences.specs.declared.driver.Lpspi.{Lpspi}
use Rattle.sequences.specs.Access.{Ending}
use Rattle.sequences.specs.Sequence.{too_deep}
use Rattle.machine.specs.declared.flush.Flush.{Flush}
use Rattle.machine.specs.declared.flush.Flush.TheVariants.{Status, Sizes, Counts, Ended as FlushDone}
use Rattle.machine.specs.Flush.{flush_access, flushed}
use Rattle.machine.specs.Poll.{failed}
use Rattle.runs.specs.declared.running.Running.{Running}
use Rattle.runs.specs.Run.{limits, halted, ending_of, left}
use Rattle.runs.specs.Flush.{flush_states, flush_run}
use Rattle.runs.specs.Flushing.{first_error, FlushRead, FlushEnded}
use Rattle.runs.specs.Running.{At, Kept, Ended}
use Rattle.runs.proofs.DriveLaws.{moved, accessed, ended_full, ended_halted}
use Rattle.runs.proofs.WordlessLaws.{came, no_frame}

-- the code stands with the run, the flush at f
abbrev pub FlushAt : List ℕ → List ℕ → Flush → Running → Type 0
FlushAt old olds f r = At flush_access flushed old olds Status f r

-- a read, after which the flush stands at f'
pub flush_read : (old olds : List ℕ) (f f' : Flush) (g : Register) (v : ℕ) (r s : Running) → Kept r s → FlushRead g r s (Some v)
    → flush_access f ≡ Read g → flushed f v ≡ f' → FlushAt old olds f r → FlushAt old olds f' s
flush_read old olds f f' g v r s k x e to h =
    subst (λ (y : Flush). FlushAt old olds y s) to
    (accessed flush_access flushed old olds Status f r s (Read g) v k x.0 e (lt-leb (length r.script.now) r.spot.used x.2) h)

-- the budget or the script is used up
pub flush_stops : (old olds : List ℕ) (f : Flush) (g : Register) (r s : Running) → Kept r s → FlushRead g r s None
    → flush_access f ≡ Read g → FlushAt old olds f r → FlushEnded old olds (Err Stopped) s
flush_stops old olds f g r s k x e h = (f, by_test (leb s.budget s.spot.made) refl)
  where
    here : FlushAt old olds f s
    here = moved flush_access flushed old olds Status f r s _ _ _ k x.0.moved x.0.logged x.0.placed h

    due : ◌≡◌ {A = Ending} (Err Stopped) (ending_of (flush_access f))
    due = ap ending_of (sym e)

    past : min s.budget (length s.script.now) ≤ s.spot.made
    past = rw (k.budget, k.script, x.0.moved) x.2

    by_test : (b : Bool) → leb s.budget s.spot.made ≡ b → Ended flush_access flushed old olds Status f (Err Stopped) s
    by_test true l = ended_full flush_access flushed old olds Status f s (Err Stopped) here (leb-true s.budget s.spot.made l) due
    by_test false l =
        let room = leb-false s.budget s.spot.made l in
        ended_halted flush_access flushed old olds Status f s (Err Stopped) here
        (ap (λ (a : Access). halted a s.spot.used (length s.script.now)) e
        ∙ le-leb (length s.script.now) s.spot.used (omega (arith, past, x.1))) due

-- it has answered
pub flush_done : (old olds : List ℕ) (e e' : Ending) (r : Running) → e ≡ e' → FlushAt old olds (FlushDone e') r → FlushEnded old olds e r
flush_done old olds e e' r x h =
    (FlushDone e', ended_halted flush_access flushed old olds Status (FlushDone e') r e h refl x)

-- what the answers come to: receive error, then transmit error, then, if not busy, PARAM, 7 by an exponent over 4, and FSR; Ok if TXCOUNT
-- is 0
pub has_failed : (v : ℕ) → (failed Rx v || failed Tx v) ≡ true → flushed Status v ≡ FlushDone (first_error v)
has_failed v = by_tests (failed Rx v) (failed Tx v) (eqb (read_field (Sr MBF) v) 1)
  where
    by_tests : (a b c : Bool) → (a || b) ≡ true
        → cond a (FlushDone (Err (Driver (Fifo Rx)))) (cond b (FlushDone (Err (Driver (Fifo Tx)))) (cond c Status Sizes)) ≡ FlushDone (cond a (Err (Driver (Fifo Rx))) (Err (Driver (Fifo Tx))))
    by_tests true b c h = refl
    by_tests false true c h = refl
    by_tests false false c h = cc

module _ (v : ℕ) (quiet : (failed Rx v || failed Tx v) ≡ false) where
  by_busy : (a b c : Bool) → (a || b) ≡ false
      → cond a (FlushDone (Err (Driver (Fifo Rx)))) (cond b (FlushDone (Err (Driver (Fifo Tx)))) (cond c Status Sizes)) ≡ cond c Status Sizes
  by_busy true b c h = let z : ◌≡◌ {A = ℕ} 0 1 = cc in absurd (omega arith)
  by_busy false true c h = let z : ◌≡◌ {A = ℕ} 0 1 = cc in absurd (omega arith)
  by_busy false false c h = refl

  goes_on : flushed Status v ≡ cond (eqb (read_field (Sr MBF) v) 1) Status Sizes
  goes_on = by_busy (failed Rx v) (failed Tx v) (eqb (read_field (Sr MBF) v) 1) quiet

  pub still_busy : eqb (read_field (Sr MBF) v) 1 ≡ true → flushed Status v ≡ Status
  still_busy b = goes_on ∙ ap (λ (c : Bool). cond c Status Sizes) b

  pub not_busy : eqb (read_field (Sr MBF) v) 1 ≡ false → flushed Status v ≡ Sizes
  not_busy b = goes_on ∙ ap (λ (c : Bool). cond c Status Sizes) b

pub deep : (v : ℕ) → too_deep v ≡ true → flushed Sizes v ≡ FlushDone (Err FifoExponent)
deep v e = rw e refl

pub not_deep : (v : ℕ) → too_deep v ≡ false → flushed Sizes v ≡ Counts
not_deep v e = rw e refl

pub none_left : (v : ℕ) → eqb (read_field (Fsr TXCOUNT) v) 0 ≡ true → flushed Counts v ≡ FlushDone (Ok tt)
none_left v e = rw e refl

pub some_left : (v : ℕ) → eqb (read_field (Fsr TXCOUNT) v) 0 ≡ false → flushed Counts v ≡ Status
some_left v e = rw e refl

-- from the read of SR to that of PARAM, and to that of FSR
pub to_sizes : (old olds : List ℕ) (v : ℕ) (r s : Running) → Kept r s → FlushRead SR r s (Some v) → (failed Rx v || failed Tx v) ≡ false
    → eqb (read_field (Sr MBF) v) 1 ≡ false → FlushAt old olds Status r → FlushAt old olds Sizes s
to_sizes old olds v r s k x quiet idle = flush_read old olds Status Sizes SR v r s k x refl (not_busy v quiet idle)

pub to_counts : (old olds : List ℕ) (v : ℕ) (r s : Running) → Kept r s → FlushRead PARAM r s (Some v) → too_deep v ≡ false
    → FlushAt old olds Sizes r → FlushAt old olds Counts s
to_counts old olds v r s k x fits = flush_read old olds Sizes Counts PARAM v r s k x refl (not_deep v fits)

-- the end of budget or script stays where it is
pub end_kept : (r s : Running) (end : ℕ) → end ≡ min r.budget (length r.script.now) → Kept r s → end ≡ min s.budget (length s.script.now)
end_kept r s end e k = rw (k.budget, k.script) e

-- the call's result, from the loop's
pub flush_result : (d : Lpspi) (budget : ℕ) (script old : List ℕ) (e : Ending) (r : Running) → limits budget old ≡ false
    → r.frame ≡ no_frame → r.budget ≡ budget → r.script.now ≡ script → r.sent_words.now ≡ [] → FlushEnded old [] e r
    → r.spot.used ≡ r.spot.made
    → left (record { ending = e; accesses = r.spot.made; answers = r.spot.made; driver = d }) r.log.now ≡ flush_run d budget script old
flush_result d budget script old e r l ef eb es en h reads =
    let x = came flush_access flushed budget script old Status h.0 e r ef eb es en h.1 in
    let s = flush_states script budget in
    rw l
    (ap₂ (λ (m n : ℕ). left (record { ending = e; accesses = m; answers = n; driver = d }) r.log.now) x.made (sym reads ∙ x.used)
    ∙ ap₂ (λ (z : Ending) (g : List ℕ). left (record { ending = z; accesses = length s.log; answers = s.used; driver = d }) g)
    x.ending x.held)
