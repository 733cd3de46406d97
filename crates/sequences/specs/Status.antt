-- The flags of SR that `Status` names.
-- Assumes nothing.
use Rattle.std.specs.Prelude.{ℕ, List, [], ◌∷◌}
use Rattle.std.specs.Int.Bits.{bit_and}
use Rattle.manual.specs.declared.Field.TheVariants.{Sr as SrField}
use Rattle.manual.specs.declared.Sr.{Sr}
use Rattle.manual.specs.declared.Sr.TheVariants.{TDF, RDF, WCF, FCF, TCF, TEF, REF, DMF, MBF}
use Rattle.manual.specs.Manual.{set_field}

-- the word that has these flags
abbrev pub flagged : List Sr → ℕ
flagged [] = 0
flagged (f ∷ fs) = set_field (SrField f) 1 (flagged fs)

-- the flags that have a name
abbrev pub named : List Sr
named = MBF ∷ DMF ∷ REF ∷ TEF ∷ TCF ∷ FCF ∷ WCF ∷ RDF ∷ TDF ∷ []

-- `status` returns SR with only the bits that `Status` names
abbrev pub status_of : ℕ → ℕ
status_of sr = bit_and sr (flagged named)

-- the flags that are cleared by writing 1 to them: 3F00
abbrev pub clearable : List Sr
clearable = DMF ∷ REF ∷ TEF ∷ TCF ∷ FCF ∷ WCF ∷ []

-- `clear_status` writes its flags masked by 3F00
abbrev pub cleared : ℕ → ℕ
cleared flags = bit_and flags (flagged clearable)

-- `recover_from_error` clears these
abbrev pub errors : ℕ
errors = flagged (TEF ∷ REF ∷ [])
