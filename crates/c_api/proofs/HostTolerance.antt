-- THE CRYSTAL TOLERANCE (document 02, No. 13) of the words that a host is handed by `lpspi_clock`; and `lpspi_disabled` of kind 0,
-- `set_clock_hz`, has written such a word to CCR where it answers 0.
-- Assumes nothing.
use Prim.Native.Nat.{ℕ, ◌%◌, ◌<◌}
use mathlib.Core.Bool.{cond}
use mathlib.Core.List.{List, []}
use mathlib.Core.Path.{◌≡◌, refl, sym, ap, ◌∙◌}
use lib.Dec.{eqb}
use Rattle.words.specs.Answer.{Answer}
use Rattle.words.specs.Clock.{clocked}
use Rattle.words.specs.Tolerance.{word_for, Tolerance}
use Rattle.words.proofs.ClockLaws.{clocked_ok, clocked_fits}
use Rattle.words.proofs.ToleranceLaws.{tolerance}
use Rattle.sequences.specs.declared.driver.Lpspi.{Lpspi}
use Rattle.sequences.specs.Driver.{with_clock}
use Rattle.runs.specs.Run.{Left}
use Rattle.calls.specs.Calls.{set_clock_hz_run}
use Rattle.calls.specs.ClockSet.{ClockSet}
use Rattle.calls.proofs.ClockSetLaws.{clock_set}
use Rattle.c_api.specs.Host.{answered, kept, clock_answered}
use Rattle.c_api.specs.HostRun.{HostLeft, host_left, driver_of, driver_left, of_call}
use Rattle.c_api.specs.HostCall.{disabled_by}
use Rattle.c_api.proofs.NumberLaws.{driver_back}

-- `lpspi_clock`: where neither is 0 the word is the clock entry's, whatever stood there
host_word : (source clock found : ℕ) {number word : ℕ} → 0 < source → 0 < clock
    → answered number word ≡ kept (clock_answered source clock) found → word ≡ word_for source clock
host_word source clock found hs hc e =
    ap (λ (a : Answer). a.value) e ∙ ap (λ (n : ℕ). cond (eqb n 0) (word_for source clock) found) (clocked_ok source clock hs hc)

-- THE TOLERANCE of two words that `lpspi_clock` hands over: the equations are its contract's
pub host_tolerance : (c s t found found' : ℕ) {m n u v : ℕ} → 0 < c → 0 < s → 0 < t → answered m u ≡ kept (clock_answered s c) found
    → answered n v ≡ kept (clock_answered t c) found' → Tolerance c s t u v
host_tolerance c s t found found' hc hs ht e f =
    rw (host_word s c found hs hc e, host_word t c found' ht hc f) (tolerance c s t hc hs ht)

-- THE CLOCK IS SET where `lpspi_disabled` of kind 0 answers 0: the equation is its contract's
module _ (kind source clock word budget : ℕ) (script log : List ℕ) {driver accesses answers : ℕ} {log' : List ℕ} (h : kind % 5 ≡ 0)
    (e : host_left 0 driver accesses answers log' [] ≡ of_call word (disabled_by (driver_of word) budget script log kind source clock)) where
  abbrev asked : Left
  asked = set_clock_hz_run (driver_of word) source clock budget script log

  same : disabled_by (driver_of word) budget script log kind source clock ≡ asked
  same = rw h refl

  handed : host_left 0 driver accesses answers log' [] ≡ of_call word asked
  handed = e ∙ ap (of_call word) same

  set : ClockSet (driver_of word) source clock asked.result.driver asked.result.accesses asked.log
  set = clock_set (driver_of word) source clock budget script log (sym (ap (λ (x : HostLeft). x.number) handed))

  abbrev next : Lpspi
  next = with_clock (clocked source clock).configs (driver_of word)

  next_back : driver_of driver ≡ next
  next_back =
      let fits = clocked_fits source clock in
      ap (λ (x : HostLeft). driver_of x.driver) handed
      ∙ ap (λ (d : Lpspi). driver_of (driver_left word d)) set.driver
      ∙ driver_back word next fits.0 fits.1

  pub host_clock_set : ClockSet (driver_of word) source clock (driver_of driver) accesses log'
  host_clock_set =
      let a = ap (λ (x : HostLeft). x.accesses) handed in
      let l = ap (λ (x : HostLeft). x.log) handed in
      record { ccr = rw (a, l) set.ccr; driver = next_back }
