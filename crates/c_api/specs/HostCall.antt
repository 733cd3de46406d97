-- The other calls for a host, by number, with parameters as numbers.
-- Assumes nothing.
use Rattle.std.specs.Prelude.{ℕ, ◌+◌, ◌*◌, ◌%◌, ◌-◌, Bool, false, cond, List, [], Option, Some, None, eqb, Err}
use Rattle.manual.specs.declared.Ccr.TheVariants.{SCKDIV, DBT, PCSSCK, SCKPCS}
use Rattle.manual.specs.declared.Field.TheVariants.{Ccr, Tcr}
use Rattle.manual.specs.declared.Tcr.TheVariants.{FRAMESZ}
use Rattle.manual.specs.Manual.{read_field, set_field}
use Rattle.words.specs.declared.clock.ClockConfigs.{ClockConfigs}
use Rattle.words.specs.declared.transaction.Direction.{Direction}
use Rattle.words.specs.declared.transaction.Direction.TheVariants.{Tx, Rx}
use Rattle.words.specs.declared.transaction.LpspiError.TheVariants.{FrameSize}
use Rattle.words.specs.declared.transaction.Transaction.{Transaction}
use Rattle.words.specs.Command.{flag_of, frame_accepted}
use Rattle.sequences.specs.declared.access.RunError.TheVariants.{Driver}
use Rattle.sequences.specs.Driver.{driver_command}
use Rattle.sequences.specs.declared.call.Call.TheVariants.{SoftReset, RecoverFromError, Init, GetStatus, ClearStatus}
use Rattle.sequences.specs.declared.call.Call.TheVariants.{IsEnabled, SetEnable, GetWatermark, SetWatermark, ClearFifo}
use Rattle.sequences.specs.declared.call.Call.TheVariants.{GetFifoStatus, ReadData, EnqueueData, EnqueueTransaction, SetClockConfigs}
use Rattle.sequences.specs.declared.call.Call.TheVariants.{SetSamplePoint, SetPeripheralEnable, SetChipSelectPolarity}
use Rattle.sequences.specs.declared.driver.Lpspi.{Lpspi}
use Rattle.sequences.specs.declared.settings.PcsPolarity.{PcsPolarity}
use Rattle.sequences.specs.declared.settings.PcsPolarity.TheVariants.{ActiveLow, ActiveHigh}
use Rattle.sequences.specs.declared.settings.SamplePoint.{SamplePoint}
use Rattle.sequences.specs.declared.settings.SamplePoint.TheVariants.{Edge, DelayedEdge}
use Rattle.sequences.specs.declared.status.Status.{Status}
use Rattle.sequences.specs.Status.{status_of}
use Rattle.runs.specs.Run.{Left, left, limits, unmoved, over_limits}
use Rattle.runs.specs.Call.{call_run}
use Rattle.calls.specs.declared.results.FifoStatus.{FifoStatus}
use Rattle.calls.specs.Values.{watermark_in, level_in, status_in, no_status, enabled_in, fifo_in, no_fifo, data_in}
use Rattle.calls.specs.Calls.{ran_call, Answered, valued, set_clock_hz_run}
use Rattle.c_api.specs.Host.{pcs_from}
use Rattle.c_api.specs.HostRun.{HostLeft, host_left, of_call}

-- PARAMETERS

-- the command of a word of TCR
abbrev pub transaction_of : ℕ → Transaction
transaction_of w = record { 0 = w }

abbrev pub odd : ℕ → Bool
odd a = eqb (a % 2) 1

abbrev pub direction_from : ℕ → Direction
direction_from a = cond (odd a) Rx Tx

abbrev pub status_from : ℕ → Status
status_from a = record { bits = status_of a }

abbrev pub sample_from : ℕ → SamplePoint
sample_from a = cond (odd a) DelayedEdge Edge

abbrev pub pcs_polarity_from : ℕ → PcsPolarity
pcs_polarity_from a = cond (odd a) ActiveHigh ActiveLow

-- the fields of a word of CCR
abbrev pub clock_from : ℕ → ClockConfigs
clock_from w =
    record {
      sckpcs = read_field (Ccr SCKPCS) w;
      pcssck = read_field (Ccr PCSSCK) w;
      dbt = read_field (Ccr DBT) w;
      sckdiv = read_field (Ccr SCKDIV) w;
    }

-- CALLS BY NUMBER

module _ (d : Lpspi) (budget : ℕ) (script log : List ℕ) where
  -- a command of a bits with the driver's order, mode and chip select; number 1 and all as found where that frame size is refused; 5 comes
  -- before it
  abbrev pub enqueue_by : ℕ → Left
  enqueue_by a =
      cond (limits budget log) (over_limits d log)
      (cond (frame_accepted a)
      (ran_call
      (call_run d (EnqueueTransaction (transaction_of (driver_command d (set_field (Tcr FRAMESZ) (a - 1) 0)))) budget script log))
      (left (unmoved d (Err (Driver FrameSize))) log))

  -- the resets, modulo 3
  abbrev pub reset_by : ℕ → Left
  reset_by kind =
      cond (eqb (kind % 3) 0) (ran_call (call_run d SoftReset budget script log))
      (cond (eqb (kind % 3) 1) (ran_call (call_run d RecoverFromError budget script log))
      (ran_call (call_run d Init budget script log)))

  -- status, enabled state, FIFOs and data, modulo 5
  abbrev pub set_by : ℕ → ℕ → Left
  set_by kind a =
      cond (eqb (kind % 5) 0) (ran_call (call_run d (ClearStatus (status_from a)) budget script log))
      (cond (eqb (kind % 5) 1) (ran_call (call_run d (SetEnable (odd a)) budget script log))
      (cond (eqb (kind % 5) 2) (ran_call (call_run d (ClearFifo (direction_from a)) budget script log))
      (cond (eqb (kind % 5) 3) (ran_call (call_run d (EnqueueData a) budget script log)) (enqueue_by a))))

  -- the disabled operations, modulo 5
  abbrev pub disabled_by : ℕ → ℕ → ℕ → Left
  disabled_by kind a b =
      cond (eqb (kind % 5) 0) (set_clock_hz_run d a b budget script log)
      (cond (eqb (kind % 5) 1) (ran_call (call_run d (SetClockConfigs (clock_from a)) budget script log))
      (cond (eqb (kind % 5) 2) (ran_call (call_run d (SetSamplePoint (sample_from a)) budget script log))
      (cond (eqb (kind % 5) 3) (ran_call (call_run d (SetPeripheralEnable (odd a)) budget script log))
      (ran_call (call_run d (SetChipSelectPolarity (pcs_from a) (pcs_polarity_from b)) budget script log)))))

-- VALUES AS NUMBERS

abbrev pub fifo_number : FifoStatus → ℕ
fifo_number f = ((f.txcap * 0x10000 + f.rxcap) * 0x10000 + f.txcount) * 0x10000 + f.rxcount

-- a word, and 2^32 to say that there is one
abbrev pub word_number : Option ℕ → ℕ
word_number None = 0
word_number (Some w) = 0x100000000 + w

abbrev pub numbered : {A : Type 0} → (A → ℕ) → Answered A → Answered ℕ
numbered f x = record { run = x.run; value = f x.value }

module _ (d : Lpspi) (budget : ℕ) (script log : List ℕ) where
  -- the calls with a value, modulo 6
  abbrev pub get_by : ℕ → ℕ → ℕ → Answered ℕ
  get_by kind a b =
      cond (eqb (kind % 6) 0) (valued (watermark_in (direction_from a)) 0 (call_run d GetWatermark budget script log))
      (cond (eqb (kind % 6) 1)
      (valued (level_in (direction_from a) (b % 256)) 0
      (call_run d (SetWatermark (direction_from a) (b % 256)) budget script log))
      (cond (eqb (kind % 6) 2) (numbered (λ x. x.bits) (valued status_in no_status (call_run d GetStatus budget script log)))
      (cond (eqb (kind % 6) 3) (numbered flag_of (valued enabled_in false (call_run d IsEnabled budget script log)))
      (cond (eqb (kind % 6) 4) (numbered fifo_number (valued fifo_in no_fifo (call_run d GetFifoStatus budget script log)))
      (numbered word_number (valued data_in None (call_run d ReadData budget script log)))))))

-- what goes back to the host
pub record HostValue : Type 0 where
  pub run : HostLeft
  pub value : ℕ

abbrev pub host_value : ℕ → ℕ → ℕ → ℕ → ℕ → List ℕ → HostValue
host_value number driver accesses answers value log = record { run = host_left number driver accesses answers log []; value = value }

abbrev pub of_answered : ℕ → Answered ℕ → HostValue
of_answered word x = record { run = of_call word x.run; value = x.value }
