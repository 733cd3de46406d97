-- The other calls of the module, each the table of its moves, in the Rust's order.
-- Assumes nothing.
use Rattle.std.specs.Prelude.{ℕ, true, false, cond, List, [], ◌∷◌, ◌++◌, Err}
use Rattle.manual.specs.declared.Register.TheVariants.{CR, SR, CFGR1, CCR, FCR, FSR, TCR, TDR, RDR}
use Rattle.words.specs.declared.transaction.Direction.TheVariants.{Tx}
use Rattle.words.specs.Clock.{clock_word}
use Rattle.sequences.specs.declared.access.Access.{Access}
use Rattle.sequences.specs.declared.access.Access.TheVariants.{Done}
use Rattle.sequences.specs.declared.access.RunError.TheVariants.{FifoExponent}
use Rattle.sequences.specs.declared.driver.Lpspi.{Lpspi}
use Rattle.sequences.specs.declared.call.Call.{Call}
use Rattle.sequences.specs.declared.call.Call.TheVariants.{SoftReset, RecoverFromError, Init, GetStatus, ClearStatus}
use Rattle.sequences.specs.declared.call.Call.TheVariants.{IsEnabled, SetEnable, GetWatermark, SetWatermark, ClearFifo}
use Rattle.sequences.specs.declared.call.Call.TheVariants.{GetFifoStatus, ReadData, EnqueueData, EnqueueTransaction, SetClockConfigs}
use Rattle.sequences.specs.declared.call.Call.TheVariants.{SetSamplePoint, SetPeripheralEnable, SetChipSelectPolarity}
use Rattle.sequences.specs.declared.sequence.Change.TheVariants.{ClearFifo as ClearOne, Enable, Restore, Controller, HalfFull}
use Rattle.sequences.specs.declared.sequence.Change.TheVariants.{Watermark, Sample, Peripheral, Polarity}
use Rattle.sequences.specs.declared.sequence.Move.{Move}
use Rattle.sequences.specs.declared.sequence.Move.TheVariants.{Keep, Look, Wait, WaitClock, Size, Sizes, Arrived, Set, Write}
use Rattle.sequences.specs.declared.sequence.Sequence.{Sequence}
use Rattle.sequences.specs.Driver.{start_driver}
use Rattle.sequences.specs.Sequence.{sequence_start, move_access, moved, modify, move_at}
use Rattle.sequences.specs.Recovery.{reset_moves, soft_reset, clear_status, recovery}

-- `init`: the reset; controller; watermarks by the transmit FIFO's size; enabled
abbrev pub init : List Move
init = reset_moves ++ Set Controller ∷ Size Tx ∷ Set HalfFull ∷ Set (Enable true) ∷ []

-- the entry of a disabled operation: MEN kept and set to 0, then the wait until it is
abbrev pub disabled_entry : Move → List Move
disabled_entry wait = Keep CR ∷ modify (Enable false) ++ wait ∷ []

-- "each disabled operation is one run: entry, operation, restore of MEN"
abbrev pub disabled : Move → List Move → List Move
disabled wait operation = disabled_entry wait ++ operation ++ modify Restore

-- the calls that document 01 lists from lpspi.rs, beside transfers and flush
abbrev pub moves_of : Call → List Move
moves_of SoftReset = soft_reset
moves_of RecoverFromError = recovery
moves_of Init = init
moves_of GetWatermark = Look FCR ∷ []
moves_of (SetWatermark d watermark) = Size d ∷ modify (Watermark d watermark)
moves_of GetStatus = Look SR ∷ []
moves_of (ClearStatus flags) = clear_status flags.bits
moves_of IsEnabled = Look CR ∷ []
moves_of (SetEnable on) = modify (Enable on)
moves_of (ClearFifo d) = modify (ClearOne d)
moves_of GetFifoStatus = Sizes ∷ Look FSR ∷ []
moves_of ReadData = Arrived ∷ Look RDR ∷ []
moves_of (EnqueueData word) = Write TDR word ∷ []
moves_of (EnqueueTransaction t) = Write TCR t.0 ∷ []
moves_of (SetClockConfigs c) = disabled (WaitClock c) (Write CCR (clock_word c) ∷ [])
moves_of (SetSamplePoint p) = disabled Wait (modify (Sample p))
moves_of (SetPeripheralEnable on) = disabled Wait (modify (Peripheral on))
moves_of (SetChipSelectPolarity pcs p) = disabled Wait (Keep CFGR1 ∷ modify (Polarity pcs p))

-- THE MACHINE OF A CALL

-- `init`, once past number 5, always returns the starting driver value
abbrev pub call_driver : Call → Lpspi → Lpspi
call_driver Init d = start_driver
call_driver c d = d

abbrev pub call_start : Call → Lpspi → Sequence
call_start c d = sequence_start (call_driver c d)

-- 7 right after PARAM was read; else the move that is due
unfoldable pub call_access : Call → Sequence → Access
call_access c s = cond s.oversize (Done (Err FifoExponent)) (move_access (move_at (moves_of c) s.place) s)

unfoldable pub call_after : Call → Sequence → ℕ → Sequence
call_after c s v = moved (move_at (moves_of c) s.place) s v
