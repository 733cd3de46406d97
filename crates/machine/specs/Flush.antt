-- `flush` loops on SR: receive error, then transmit error, then, if not busy, PARAM and FSR; Ok if TXCOUNT is 0. An exponent over 4 in
-- either field gives 7 right after PARAM (02, No. 5).
-- Assumes nothing.
use Rattle.std.specs.Prelude.{ℕ, cond, eqb, Ok, Err}
use Rattle.manual.specs.declared.Field.TheVariants.{Sr, Fsr}
use Rattle.manual.specs.declared.Fsr.TheVariants.{TXCOUNT}
use Rattle.manual.specs.declared.Register.TheVariants.{SR, PARAM, FSR}
use Rattle.manual.specs.declared.Sr.TheVariants.{TEF, REF, MBF}
use Rattle.manual.specs.Manual.{read_field}
use Rattle.words.specs.declared.transaction.Direction.TheVariants.{Tx, Rx}
use Rattle.words.specs.declared.transaction.LpspiError.TheVariants.{Fifo}
use Rattle.sequences.specs.declared.access.Access.{Access}
use Rattle.sequences.specs.declared.access.Access.TheVariants.{Read, Done}
use Rattle.sequences.specs.declared.access.RunError.TheVariants.{Driver, FifoExponent}
use Rattle.sequences.specs.Sequence.{too_deep}
use Rattle.machine.specs.declared.flush.Flush.{Flush}
use Rattle.machine.specs.declared.flush.Flush.TheVariants.{Status, Sizes, Counts, Ended}

-- the access that is due
abbrev pub flush_access : Flush → Access
flush_access Status = Read SR
flush_access Sizes = Read PARAM
flush_access Counts = Read FSR
flush_access (Ended e) = Done e

-- the flush after the answer v
abbrev pub flushed : Flush → ℕ → Flush
flushed Status v =
    cond (eqb (read_field (Sr REF) v) 1) (Ended (Err (Driver (Fifo Rx))))
    (cond (eqb (read_field (Sr TEF) v) 1) (Ended (Err (Driver (Fifo Tx)))) (cond (eqb (read_field (Sr MBF) v) 1) Status Sizes))
flushed Sizes v = cond (too_deep v) (Ended (Err FifoExponent)) Counts
flushed Counts v = cond (eqb (read_field (Fsr TXCOUNT) v) 0) (Ended (Ok tt)) Status
flushed (Ended e) v = Ended e
