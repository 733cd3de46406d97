-- The driver value: order, mode, chip select, and the cache of DBT and SCKDIV.
-- Assumes nothing.
use Rattle.std.specs.Prelude.{ℕ}
use Rattle.words.specs.declared.clock.ClockConfigs.{ClockConfigs}
use Rattle.words.specs.declared.order.BitOrder.{BitOrder}
use Rattle.words.specs.declared.order.BitOrder.TheVariants.{Msb}
use Rattle.words.specs.declared.mode.Mode.{Mode}
use Rattle.words.specs.declared.mode.Pcs.{Pcs}
use Rattle.words.specs.declared.mode.Pcs.TheVariants.{Pcs0}
use Rattle.words.specs.declared.mode.Phase.TheVariants.{CaptureOnFirstTransition}
use Rattle.words.specs.declared.mode.Polarity.TheVariants.{IdleLow}
use Rattle.words.specs.Command.{bus_word}
use Rattle.sequences.specs.declared.driver.Lpspi.{Lpspi}

-- the starting driver value: MSB, MODE_0 (CPOL and CPHA 0), PCS 0, cache 0
abbrev pub start_driver : Lpspi
start_driver = record {
  order = Msb;
  mode = record { polarity = IdleLow; phase = CaptureOnFirstTransition };
  pcs = Pcs0;
  cache = record { dbt = 0; sckdiv = 0 };
}

abbrev pub with_order : BitOrder → Lpspi → Lpspi
with_order o d = record d { order = o }

abbrev pub with_mode : Mode → Lpspi → Lpspi
with_mode m d = record d { mode = m }

abbrev pub with_pcs : Pcs → Lpspi → Lpspi
with_pcs p d = record d { pcs = p }

-- the cache takes DBT and SCKDIV
abbrev pub with_clock : ClockConfigs → Lpspi → Lpspi
with_clock c d = record d { cache = record { dbt = c.dbt; sckdiv = c.sckdiv } }

-- a command's word with the driver's order, mode and chip select
abbrev pub driver_command : Lpspi → ℕ → ℕ
driver_command d w = bus_word d.order d.mode d.pcs w
