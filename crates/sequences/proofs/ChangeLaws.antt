-- A modify writes a register with only the named fields changed: every field of it reads back as the change gave it, masked to the field,
-- or as it was before, and every other bit is as it was. Assumes nothing.
use Prim.Native.Nat.{ℕ, ◌%◌}
use mathlib.Core.List.{List, [], ◌∷◌}
use mathlib.Core.Path.{◌≡◌, refl}
use lib.Dec.{T}
use Rattle.manual.specs.declared.Field.{Field}
use Rattle.manual.specs.declared.Field.TheVariants.{Ccr}
use Rattle.manual.specs.declared.Ccr.TheVariants.{SCKDIV, DBT, PCSSCK, SCKPCS}
use Rattle.manual.specs.Bits.{get_bits}
use Rattle.manual.specs.Manual.{register_of, read_field, Setting}
use Rattle.manual.proofs.ManualLaws.{AllOf, found, read_register, read_all, outside, kept_outside}
use Rattle.words.specs.declared.transaction.Direction.TheVariants.{Tx, Rx}
use Rattle.sequences.specs.declared.sequence.Change.{Change}
use Rattle.sequences.specs.declared.sequence.Change.TheVariants.{Reset, Release, ClearFifos, ClearFifo, Enable, Restore, Controller}
use Rattle.sequences.specs.declared.sequence.Change.TheVariants.{HalfFull, Watermark, Sample, Peripheral, Polarity}
use Rattle.sequences.specs.declared.driver.CcrCache.{CcrCache}
use Rattle.sequences.specs.Sequence.{cached_in, change_register, settings_of, changed}

-- the fields of a change are of its register
of_register : (c : Change) (kept : List ℕ) → AllOf (change_register c) (settings_of c kept)
of_register Reset kept = (refl, (refl, tt))
of_register Release kept = (refl, tt)
of_register ClearFifos kept = (refl, (refl, tt))
of_register (ClearFifo Tx) kept = (refl, tt)
of_register (ClearFifo Rx) kept = (refl, tt)
of_register (Enable on) kept = (refl, tt)
of_register Restore kept = (refl, tt)
of_register Controller kept = (refl, (refl, tt))
of_register HalfFull kept = (refl, (refl, tt))
of_register (Watermark Tx w) kept = (refl, tt)
of_register (Watermark Rx w) kept = (refl, tt)
of_register (Sample p) kept = (refl, tt)
of_register (Peripheral on) kept = (refl, tt)
of_register (Polarity pcs p) kept = (refl, tt)

pub change_reads : (c : Change) (kept : List ℕ) (g : Field) (w : ℕ) → register_of g ≡ change_register c
    → read_field g (changed c kept w) ≡ found g (settings_of c kept) w
change_reads c kept g w e = read_register g (change_register c) (settings_of c kept) w e (of_register c kept)

-- bits outside the named fields, whether the table has a field there or not
pub change_keeps : (c : Change) (kept : List ℕ) (q m w : ℕ) → T (outside q m (settings_of c kept))
    → get_bits q m (changed c kept w) ≡ get_bits q m w
change_keeps c kept q m w h = kept_outside q m (settings_of c kept) w h

-- CCR as `soft_reset` writes it: DBT and SCKDIV from the cache, the others as they were read
pub record ClockKept (c : CcrCache) (ccr w : ℕ) : Type 0 where
  pub dbt : read_field (Ccr DBT) w ≡ c.dbt % 256
  pub sckdiv : read_field (Ccr SCKDIV) w ≡ c.sckdiv % 256
  pub pcssck : read_field (Ccr PCSSCK) w ≡ read_field (Ccr PCSSCK) ccr
  pub sckpcs : read_field (Ccr SCKPCS) w ≡ read_field (Ccr SCKPCS) ccr

pub cache_reads : (c : CcrCache) (ccr : ℕ) → ClockKept c ccr (cached_in c ccr)
cache_reads c ccr = record {
  dbt = read_all (Ccr DBT) both ccr tt;
  sckdiv = read_all (Ccr SCKDIV) both ccr tt;
  pcssck = read_all (Ccr PCSSCK) both ccr tt;
  sckpcs = read_all (Ccr SCKPCS) both ccr tt;
}
  where
    both : List Setting
    both = (Ccr DBT, c.dbt) ∷ (Ccr SCKDIV, c.sckdiv) ∷ []
