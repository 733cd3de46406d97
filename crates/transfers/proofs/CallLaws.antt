-- The transfers as calls: never more accesses than the budget, and the run with no limit. The counts are those in the result. What an Ok
-- transfer costs is crate `bill`.
-- Assumes nothing.
use Prim.Native.Nat.{ℕ, ◌+◌, ◌*◌, ◌≤◌}
use mathlib.Core.Bool.{Bool, true, false, cond}
use mathlib.Core.List.{List}
use mathlib.Core.Path.{◌≡◌, refl}
use native.Mathlib.Omega.{arith}
use lib.ListN.{length}
use Rattle.words.specs.Word.{laid}
use Rattle.words.specs.Buffer.{unpack_words}
use Rattle.sequences.specs.declared.driver.Lpspi.{Lpspi}
use Rattle.machine.specs.Transfer.{due_access, resumed}
use Rattle.runs.specs.declared.result.RunResult.{RunResult}
use Rattle.runs.specs.Run.{start, limits, over_limits, ran}
use Rattle.transfers.specs.Transfers.{Plan, begun, transfer_states, TransferLeft, transferred}
use Rattle.runs.specs.Unlimited.{Unlimited}
use Rattle.runs.proofs.RunLaws.{run_log, run_used, small_budget, room}
use Rattle.runs.proofs.Unlimited.{transfer_unlimited}

-- the counts of a result, with its log
pub record Counts (log : List ℕ) (r : RunResult) : Type 0 where
  pub accesses : r.accesses ≤ 8000
  pub pairs : 2 * r.accesses ≤ length log
  pub answers : r.answers ≤ r.accesses

module _ (k : ℕ) (d : Lpspi) (p : Plan) (budget : ℕ) (script : List ℕ) where
  -- what a call leaves, by the test for number 5
  abbrev pub leaves : Bool → List ℕ → List ℕ → TransferLeft
  leaves b buffer log =
      cond b (record { call = over_limits d log; buffer = buffer })
      (let s = transfer_states k d p script budget in
      record { call = ran due_access d log s; buffer = laid (unpack_words d.order k p.total s.received) buffer })

  -- NEVER MORE ACCESSES THAN THE BUDGET
  pub within_budget : (buffer log : List ℕ) → (transferred k d p buffer budget script log).call.result.accesses ≤ budget
  within_budget buffer log = by_limits (limits budget log)
    where
      by_limits : (b : Bool) → (leaves b buffer log).call.result.accesses ≤ budget
      by_limits true = omega arith
      by_limits false = omega (arith, run_log due_access resumed p.words script budget (start (begun k d p)))

  -- THE COUNTS fit the log, the largest budget and each other
  pub call_counts : (buffer log : List ℕ) → Counts log (transferred k d p buffer budget script log).call.result
  call_counts buffer log = by_limits (limits budget log) refl
    where
      by_limits : (b : Bool) → limits budget log ≡ b → Counts log (leaves b buffer log).call.result
      by_limits true e = record { accesses = omega arith; pairs = omega arith; answers = omega arith }
      by_limits false e =
          let made = run_log due_access resumed p.words script budget (start (begun k d p)) in
          record {
            accesses = omega (arith, made, small_budget budget log e);
            pairs = omega (arith, made, room budget log e);
            answers = run_used due_access resumed p.words script budget (start (begun k d p)) (omega arith);
          }

  -- WITH BUDGET ENOUGH FOR ITS SCRIPT a call leaves what its run comes to with no limit on accesses
  pub call_unlimited : 11 * (length script + 1) ≤ budget
      → Unlimited due_access resumed p.words script (start (begun k d p)) (transfer_states k d p script budget)
  call_unlimited h = transfer_unlimited p.words script budget (start (begun k d p)) h
