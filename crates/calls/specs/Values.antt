-- The values of calls: each comes from the registers that its run read.
-- Assumes nothing.
use Rattle.std.specs.Prelude.{ℕ, Bool, cond, Option, Some, None, leb, eqb}
use Rattle.manual.specs.declared.Cr.TheVariants.{MEN}
use Rattle.manual.specs.declared.Field.TheVariants.{Cr, Fsr, Rsr}
use Rattle.manual.specs.declared.Fsr.TheVariants.{TXCOUNT, RXCOUNT}
use Rattle.manual.specs.declared.Register.TheVariants.{PARAM, RSR}
use Rattle.manual.specs.declared.Rsr.TheVariants.{RXEMPTY}
use Rattle.manual.specs.Manual.{read_field}
use Rattle.words.specs.declared.transaction.Direction.{Direction}
use Rattle.words.specs.declared.transaction.Direction.TheVariants.{Tx, Rx}
use Rattle.sequences.specs.declared.sequence.Sequence.{Sequence}
use Rattle.sequences.specs.declared.status.Status.{Status}
use Rattle.sequences.specs.Sequence.{kept_of, depth_of, water_of, level_of}
use Rattle.sequences.specs.Status.{status_of}
use Rattle.calls.specs.declared.results.FifoStatus.{FifoStatus}

-- the direction's watermark in FCR
abbrev pub watermark_in : Direction → Sequence → ℕ
watermark_in d s = read_field (water_of d) s.held

-- the watermark that was set
abbrev pub level_in : Direction → ℕ → Sequence → ℕ
level_in d watermark s = level_of d watermark (kept_of PARAM s.kept)

abbrev pub status_in : Sequence → Status
status_in s = record { bits = status_of s.held }

abbrev pub enabled_in : Sequence → Bool
enabled_in s = eqb (read_field (Cr MEN) s.held) 1

-- "`FifoStatus` reports depths"
abbrev pub fifo_status : ℕ → ℕ → FifoStatus
fifo_status param counts =
    record {
      rxcount = read_field (Fsr RXCOUNT) counts;
      txcount = read_field (Fsr TXCOUNT) counts;
      rxcap = depth_of Rx param;
      txcap = depth_of Tx param;
    }

abbrev pub fifo_in : Sequence → FifoStatus
fifo_in s = fifo_status (kept_of PARAM s.kept) s.held

-- the word of `read_data`: RDR's only if RXEMPTY is 0; otherwise no word
abbrev pub data_in : Sequence → Option ℕ
data_in s = cond (eqb (read_field (Rsr RXEMPTY) (kept_of RSR s.kept)) 0) (Some s.held) None

-- where there is no answer
abbrev pub no_status : Status
no_status = record { bits = 0 }

abbrev pub no_fifo : FifoStatus
no_fifo = record { rxcount = 0; txcount = 0; rxcap = 0; txcap = 0 }

-- `is_full`, "count ≥ 2^exponent": the count has reached the depth
abbrev pub is_full : Direction → FifoStatus → Bool
is_full Tx f = leb f.txcap f.txcount
is_full Rx f = leb f.rxcap f.rxcount
