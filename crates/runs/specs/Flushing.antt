-- A flush as the code makes it. Only private contracts cite what stands here.
-- Assumes nothing.
use Rattle.std.specs.Prelude.{ℕ, ◌<◌, ◌≤◌, ◌≡◌, min, cond, List, length, Option, None, Some, Err}
use Rattle.manual.specs.declared.Register.{Register}
use Rattle.words.specs.declared.transaction.Direction.TheVariants.{Tx, Rx}
use Rattle.words.specs.declared.transaction.LpspiError.TheVariants.{Fifo}
use Rattle.sequences.specs.declared.access.Access.TheVariants.{Read}
use Rattle.sequences.specs.declared.access.RunError.TheVariants.{Driver}
use Rattle.sequences.specs.Access.{Ending}
use Rattle.machine.specs.declared.flush.Flush.{Flush}
use Rattle.machine.specs.declared.flush.Flush.TheVariants.{Status}
use Rattle.machine.specs.Flush.{flush_access, flushed}
use Rattle.machine.specs.Poll.{failed}
use Rattle.runs.specs.declared.running.Running.{Running}
use Rattle.runs.specs.Running.{Accessed, Still, Ended}

-- receive error, then transmit error
abbrev pub first_error : ℕ → Ending
first_error status = cond (failed Rx status) (Err (Driver (Fifo Rx))) (Err (Driver (Fifo Tx)))

-- a read, or nothing done at the end of budget or script; as many answers are used as accesses made
abbrev pub FlushRead : Register → Running → Running → Option ℕ → Type 0
FlushRead g r s None = Still r s × (s.spot.used ≡ s.spot.made) × (min r.budget (length r.script.now) ≤ r.spot.made)
FlushRead g r s (Some v) = Accessed (Read g) r s v × (s.spot.used ≡ s.spot.made) × (r.spot.used < length r.script.now)

-- the run of a flush has come to its end
abbrev pub FlushEnded : List ℕ → List ℕ → Ending → Running → Type 0
FlushEnded old olds e r = (f : Flush) × Ended flush_access flushed old olds Status f e r
