-- The exchange that was asked for, and what its result counts.
-- Assumes nothing.
use Rattle.std.proofs.Common.{ℕ, zero, suc, ◌≡◌, ◌≤◌, List, ◌∷◌, take, refl, sym, ap, subst, arith}
use Rattle.sequences.specs.declared.driver.Lpspi.{Lpspi}
use Rattle.runs.specs.declared.result.RunResult.{RunResult}
use Rattle.transfers.specs.Transfers.{TransferLeft, transfer_left, separate_plan, exchange_separate}
use Rattle.transfers.proofs.CallLaws.{Counts, call_counts}
use Rattle.lines.specs.Buslog.{zeros}

-- the front of an array of zeros
pub take_zeros : (m n : ℕ) → n ≤ m → take n (zeros m) ≡ zeros n
take_zeros m zero h = refl
take_zeros zero (suc n) h = absurd (omega arith)
take_zeros (suc m) (suc n) h = ap (λ (l : List ℕ). 0 ∷ l) (take_zeros m n (omega arith))

-- the counts of the result
pub exchange_counts : (k : ℕ) (d : Lpspi) (read write : List ℕ) (budget : ℕ) (script log : List ℕ) (r : RunResult) (log' read' : List ℕ)
    → transfer_left r log' read' ≡ exchange_separate k d read write budget script log → Counts log r
exchange_counts k d read write budget script log r log' read' left =
    subst (Counts log) (sym (ap (λ (t : TransferLeft). t.call.result) left))
    (call_counts k d (separate_plan k d read write) budget script read log)

pub same_exchange : (k : ℕ) (d d' : Lpspi) (read read' write : List ℕ) (budget : ℕ) (script log log' : List ℕ) → d ≡ d' → read ≡ read'
    → log ≡ log' → exchange_separate k d read write budget script log ≡ exchange_separate k d' read' write budget script log'
same_exchange k d d' read read' write budget script log log' f g h = rw (f, g, h)
