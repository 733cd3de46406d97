-- Settings of the peripheral, as their fields have them.
-- Assumes nothing.
use Rattle.std.specs.Prelude.{ℕ}
use Rattle.sequences.specs.declared.settings.SamplePoint.{SamplePoint}
use Rattle.sequences.specs.declared.settings.SamplePoint.TheVariants.{Edge, DelayedEdge}
use Rattle.sequences.specs.declared.settings.PcsPolarity.{PcsPolarity}
use Rattle.sequences.specs.declared.settings.PcsPolarity.TheVariants.{ActiveLow, ActiveHigh}

-- CFGR1's SAMPLE
abbrev pub sample_of : SamplePoint → ℕ
sample_of Edge = 0
sample_of DelayedEdge = 1

-- a chip select's bit in CFGR1's PCSPOL
abbrev pub pcspol_of : PcsPolarity → ℕ
pcspol_of ActiveLow = 0
pcspol_of ActiveHigh = 1
