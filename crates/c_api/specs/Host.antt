-- What a host passes as numbers, and what it finds where a word goes.
-- Assumes nothing.
use Rattle.std.specs.Prelude.{ℕ, ◌/◌, ◌%◌, Bool, cond, eqb}
use Rattle.words.specs.declared.order.BitOrder.{BitOrder}
use Rattle.words.specs.declared.order.BitOrder.TheVariants.{Msb, Lsb}
use Rattle.words.specs.declared.mode.Polarity.{Polarity}
use Rattle.words.specs.declared.mode.Polarity.TheVariants.{IdleLow, IdleHigh}
use Rattle.words.specs.declared.mode.Phase.{Phase}
use Rattle.words.specs.declared.mode.Phase.TheVariants.{CaptureOnFirstTransition, CaptureOnSecondTransition}
use Rattle.words.specs.declared.mode.Mode.{Mode}
use Rattle.words.specs.declared.mode.Pcs.{Pcs}
use Rattle.words.specs.declared.mode.Pcs.TheVariants.{Pcs0, Pcs1, Pcs2, Pcs3}
use Rattle.words.specs.Answer.{Answer}
use Rattle.words.specs.Clock.{clocked, clock_word}
use Rattle.words.specs.declared.transaction.Settings.{Settings}

abbrev pub order_from : Bool → BitOrder
order_from lsb = cond lsb Lsb Msb

-- the SPI mode number: bit 1 is the polarity, bit 0 the phase; higher bits do not count
abbrev pub polarity_from : ℕ → Polarity
polarity_from mode = cond (eqb (mode / 2 % 2) 0) IdleLow IdleHigh

abbrev pub phase_from : ℕ → Phase
phase_from mode = cond (eqb (mode % 2) 0) CaptureOnFirstTransition CaptureOnSecondTransition

abbrev pub mode_from : ℕ → Mode
mode_from mode = record { polarity = polarity_from mode; phase = phase_from mode }

-- the chip select's number; bits above the lowest two do not count
abbrev pub pcs_from : ℕ → Pcs
pcs_from pcs = cond (eqb (pcs % 4) 0) Pcs0 (cond (eqb (pcs % 4) 1) Pcs1 (cond (eqb (pcs % 4) 2) Pcs2 Pcs3))

abbrev pub settings_from : Bool → Bool → Bool → Bool → Bool → Bool → ℕ → ℕ → Settings
settings_from swap lsb receive transmit continuous continuing mode pcs = record {
  byte_swap = swap;
  order = order_from lsb;
  receive_mask = receive;
  transmit_mask = transmit;
  continuous = continuous;
  continuing = continuing;
  mode = mode_from mode;
  pcs = pcs_from pcs;
}

-- a number that was returned, and what stands where the word goes
abbrev pub answered : ℕ → ℕ → Answer
answered number word = record { number = number; value = word }

-- with 0 the value stands there, with any other number what was found
abbrev pub kept : Answer → ℕ → Answer
kept a found = answered a.number (cond (eqb a.number 0) a.value found)

-- the clock's number and CCR's word
abbrev pub clock_answered : ℕ → ℕ → Answer
clock_answered source clock = answered (clocked source clock).number (clock_word (clocked source clock).configs)
