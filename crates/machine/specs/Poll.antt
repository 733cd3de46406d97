-- A poll of a FIFO (document 01, Accesses and transfers; 02, No. 5): SR, PARAM, FSR.
-- Assumes nothing.
use Rattle.std.specs.Prelude.{ℕ, Bool, cond, ltb, eqb}
use Rattle.manual.specs.declared.Field.TheVariants.{Sr, Fsr}
use Rattle.manual.specs.declared.Fsr.TheVariants.{TXCOUNT, RXCOUNT}
use Rattle.manual.specs.declared.Register.TheVariants.{SR, PARAM, FSR}
use Rattle.manual.specs.declared.Sr.TheVariants.{TEF, REF}
use Rattle.manual.specs.Manual.{read_field}
use Rattle.words.specs.declared.transaction.Direction.{Direction}
use Rattle.words.specs.declared.transaction.Direction.TheVariants.{Tx, Rx}
use Rattle.sequences.specs.declared.access.Access.{Access}
use Rattle.sequences.specs.declared.access.Access.TheVariants.{Read}
use Rattle.sequences.specs.Sequence.{too_deep, depth_of}
use Rattle.machine.specs.declared.poll.Poll.{Poll}
use Rattle.machine.specs.declared.poll.Poll.TheVariants.{Status, Sizes, Counts}
use Rattle.machine.specs.declared.poll.Polled.{Polled}
use Rattle.machine.specs.declared.poll.Polled.TheVariants.{Failed, TooDeep, Next, Ready, Unready}

abbrev pub poll_access : Poll → Access
poll_access Status = Read SR
poll_access Sizes = Read PARAM
poll_access (Counts param) = Read FSR

-- transmit poll: the transmit error flag; receive poll: the receive error flag
abbrev pub failed : Direction → ℕ → Bool
failed Tx status = eqb (read_field (Sr TEF) status) 1
failed Rx status = eqb (read_field (Sr REF) status) 1

-- "full now means count ≥ 2^exponent": there is a place below that; a word is there if RXCOUNT > 0
abbrev pub ready : Direction → ℕ → ℕ → Bool
ready Tx param counts = ltb (read_field (Fsr TXCOUNT) counts) (depth_of Tx param)
ready Rx param counts = ltb 0 (read_field (Fsr RXCOUNT) counts)

-- what a poll comes to by the answer to its read: an error flag first; then an exponent over 4, right after PARAM
abbrev pub polled : Direction → Poll → ℕ → Polled
polled d Status v = cond (failed d v) Failed (Next Sizes)
polled d Sizes v = cond (too_deep v) TooDeep (Next (Counts v))
polled d (Counts param) v = cond (ready d param v) Ready Unready

-- a poll goes on only where an answer neither fails nor settles it
abbrev pub poll_onward : Polled → Polled → Polled
poll_onward Failed next = Failed
poll_onward TooDeep next = TooDeep
poll_onward (Next p) next = next
poll_onward Ready next = Ready
poll_onward Unready next = Unready

-- from the read of PARAM on
abbrev pub from_sizes : Direction → ℕ → ℕ → Polled
from_sizes d param counts = poll_onward (polled d Sizes param) (polled d (Counts param) counts)

-- A WHOLE POLL, of the answers to its three reads
abbrev pub whole : Direction → ℕ → ℕ → ℕ → Polled
whole d status param counts = poll_onward (polled d Status status) (from_sizes d param counts)
