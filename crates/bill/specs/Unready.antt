-- "w unready polls" (document 01, Accesses and transfers): the polls of a run whose last read, of the counts, found no place or no word.
-- Assumes nothing.
use Rattle.std.specs.Prelude.{ℕ, zero, suc, ◌+◌, cond, List, length, get_or}
use Rattle.words.specs.declared.transaction.Direction.{Direction}
use Rattle.words.specs.declared.transaction.Direction.TheVariants.{Tx, Rx}
use Rattle.machine.specs.declared.poll.Poll.{Poll}
use Rattle.machine.specs.declared.poll.Poll.TheVariants.{Status, Sizes, Counts}
use Rattle.machine.specs.declared.transfer.Stage.{Stage}
use Rattle.machine.specs.declared.transfer.Stage.TheVariants.{Space, Command, Sending, Send, Receiving, Receive, Recovery, Ended}
use Rattle.machine.specs.declared.transfer.Transfer.{Transfer}
use Rattle.machine.specs.Poll.{ready}
use Rattle.machine.specs.Transfer.{due_access, resumed}
use Rattle.runs.specs.Run.{State, halted, step}

-- 1 where the counts v end a poll that is not ready
abbrev pub unready_by : Direction → Poll → ℕ → ℕ
unready_by d Status v = 0
unready_by d Sizes v = 0
unready_by d (Counts param) v = cond (ready d param v) 0 1

abbrev pub unready_in : Stage → ℕ → ℕ
unready_in (Space p) v = unready_by Tx p v
unready_in Command v = 0
unready_in (Sending p) v = unready_by Tx p v
unready_in Send v = 0
unready_in (Receiving p) v = unready_by Rx p v
unready_in Receive v = 0
unready_in (Recovery d) v = 0
unready_in (Ended e) v = 0

-- the next access, with the script's answer to it; 0 where no access can be made
abbrev pub unready : List ℕ → State Transfer → ℕ
unready script s =
    cond (halted (due_access s.machine) s.used (length script)) 0 (unready_in s.machine.phase (get_or script s.used 0))

module _ (script : List ℕ) (words : List ℕ → ℕ → ℕ) where
  -- of a run from s, of at most so many accesses
  unfoldable pub unready_polls : ℕ → State Transfer → ℕ
  unready_polls zero s = 0
  unready_polls (suc n) s = unready script s + unready_polls n (step due_access resumed words script s)
