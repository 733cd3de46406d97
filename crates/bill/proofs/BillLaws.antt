-- THE ACCESS BILL of the four transfers (document 02, No. 1), of what the functions return: `transfer_left r ..` stands in their contracts.
-- Assumes nothing.
use Prim.Native.Nat.{ℕ, zero, suc, ◌+◌, ◌*◌, ◌-◌, ◌/◌, ◌<◌, ◌≤◌, max}
use mathlib.Core.Bool.{Bool, true, false, cond}
use mathlib.Core.List.{List, []}
use mathlib.Core.Path.{◌≡◌, refl, sym, ap, ◌∙◌, subst}
use native.Mathlib.Nat.{div-zero, div-eq_of_lt, mul-zero}
use native.Mathlib.Omega.{arith}
use lib.Dec.{eqb}
use lib.ListN.{length}
use borrow.Author.Tests.{eq-eqb, eqb-true}
use Rattle.words.specs.declared.transaction.LpspiError.TheVariants.{FrameSize}
use Rattle.words.specs.declared.width.Width.{Width}
use Rattle.words.specs.Width.{width_bits}
use Rattle.words.specs.Word.{per_word}
use Rattle.words.specs.Buffer.{word_count}
use Rattle.words.specs.Command.{frame_accepted, commanded}
use Rattle.words.proofs.BufferLaws.{holds_one, enough_words}
use Rattle.sequences.specs.Access.{Ending}
use Rattle.std.specs.Prelude.{Ok, Err}
use Rattle.sequences.specs.declared.access.RunError.TheVariants.{Driver}
use Rattle.sequences.specs.declared.driver.Lpspi.{Lpspi}
use Rattle.sequences.specs.Access.{number_of}
use Rattle.sequences.specs.Driver.{driver_command}
use Rattle.sequences.proofs.EndingLaws.{zero_is_ok}
use Rattle.machine.specs.declared.transfer.Transfer.{Transfer}
use Rattle.machine.specs.Transfer.{start_transfer, ended_transfer, due_access, resumed}
use Rattle.runs.specs.declared.result.RunResult.{RunResult}
use Rattle.runs.specs.Run.{State, Left, start, run, limits, ending_of, ran, log_over}
use Rattle.runs.proofs.RunLaws.{run_halted}
use Rattle.transfers.specs.Transfers.{Plan, begun, transfer_states, TransferLeft, transferred, transfer_left, separate_plan, in_place_plan}
use Rattle.transfers.specs.Transfers.{write_plan, read_plan, exchange_separate, exchange, write_no_read, read_no_write}
use Rattle.transfers.proofs.CallLaws.{leaves}
use Rattle.bill.specs.Unready.{unready_polls}
use Rattle.bill.specs.Listed.{polls_again}
use Rattle.bill.specs.AccessBill.{AccessBill, waits}
use Rattle.bill.proofs.UnreadyLaws.{no_polls}
use Rattle.bill.proofs.RunBill.{ok_exactly}
use Rattle.bill.proofs.RunListed.{ok_listed}

-- a transfer by its plan, as a run
module _ (k : ℕ) (d : Lpspi) (p : Plan) (budget : ℕ) (script : List ℕ) where
  abbrev from : Transfer → State Transfer
  from t = run due_access resumed p.words script budget (start t)

  abbrev EndsOk : Transfer → Type 0
  EndsOk t = ending_of (due_access (from t).machine) ≡ Ok tt

  -- a transfer that makes no access
  unmoved : (e : Ending) → from (ended_transfer d e) ≡ start (ended_transfer d e)
  unfolding due_access
  unmoved e = run_halted due_access resumed p.words script budget (start (ended_transfer d e)) refl

  refused_not_ok : EndsOk (ended_transfer d (Err (Driver FrameSize))) → ⊥
  unfolding due_access
  refused_not_ok e =
      let q : Err (Driver FrameSize) ≡ (Ok tt) = ap (λ (s : State Transfer). ending_of (due_access s.machine)) (sym (unmoved (Err (Driver FrameSize)))) ∙ e in
      let z : ◌≡◌ {A = ℕ} 0 1 = cc in
      omega arith

  -- a run that ends Ok is of an empty transfer, or of one that was started
  ok_began : (Holds : Transfer → Type 0) → (p.total ≡ 0 → Holds (ended_transfer d (Ok tt)))
      → ((command : ℕ) → EndsOk (start_transfer d command p.send p.receive) → Holds (start_transfer d command p.send p.receive))
      → EndsOk (begun k d p) → Holds (begun k d p)
  ok_began Holds empty started =
      by_tests (commanded (λ w. p.command (driver_command d w)) (k * p.total)).value (eqb p.total 0) refl
      (frame_accepted (k * p.total))
    where
      by_tests : (command : ℕ) (b : Bool) → eqb p.total 0 ≡ b → (c : Bool)
          → EndsOk (cond b (ended_transfer d (Ok tt)) (cond c (start_transfer d command p.send p.receive) (ended_transfer d (Err (Driver FrameSize)))))
          → Holds (cond b (ended_transfer d (Ok tt)) (cond c (start_transfer d command p.send p.receive) (ended_transfer d (Err (Driver FrameSize)))))
      by_tests command true t c e = empty (eqb-true p.total 0 t)
      by_tests command false t true e = started command e
      by_tests command false t false e = absurd (refused_not_ok e)

  empty_made : (b : Bool) (t : Transfer) → b ≡ true → length (from (cond b (ended_transfer d (Ok tt)) t)).log ≡ 0
  empty_made true t h = ap (λ (s : State Transfer). length s.log) (unmoved (Ok tt))
  empty_made false t h = cc

  empty_listed : (old : List ℕ) → unready_polls script p.words budget (start (ended_transfer d (Ok tt)))
      ≡ polls_again (length (from (ended_transfer d (Ok tt))).log) (log_over old (from (ended_transfer d (Ok tt))).log)
  unfolding due_access
  empty_listed old =
      no_polls script p.words budget (start (ended_transfer d (Ok tt))) refl
      ∙ ap (λ (s : State Transfer). polls_again (length s.log) (log_over old s.log)) (sym (unmoved (Ok tt)))

-- n is 0 for the empty transfer and, at the three widths, at least 1 for every other
no_words_lem : (k : ℕ) → word_count k 0 ≡ 0
no_words_lem k = by_places (per_word k)
  where
    by_places : (c : ℕ) → (0 + (c - 1)) / c ≡ 0
    by_places zero = div-zero (0 + (0 - 1))
    by_places (suc c) = div-eq_of_lt (omega arith)

pub words_of_some : (k n : ℕ) → 1 ≤ word_count k n → 0 < n
words_of_some k zero h = absurd (omega (arith, no_words_lem k))
words_of_some k (suc n) h = omega arith

pub some_words : (x : Width) (n : ℕ) → 0 < n → 1 ≤ word_count (width_bits x) n
some_words x n some = by_count (word_count (width_bits x) n) (enough_words (width_bits x) n (holds_one x))
  where
    by_count : (c : ℕ) → n ≤ per_word (width_bits x) * c → 1 ≤ c
    by_count zero l = absurd (omega (arith, l, mul-zero (per_word (width_bits x))))
    by_count (suc c) l = omega arith

-- ANY TRANSFER, by its plan: of what the definition leaves
module _ (k : ℕ) (d : Lpspi) (budget : ℕ) (script log : List ℕ) (p : Plan) (buffer : List ℕ) where
  abbrev call : Left
  call = (transferred k d p buffer budget script log).call

  abbrev end : State Transfer
  end = transfer_states k d p script budget

  -- the number 0 comes past the test for 5, of a run that ended Ok
  passed : call.number ≡ 0 → (call ≡ ran due_access d log end) × (ending_of (due_access end.machine) ≡ Ok tt)
  passed = by_limits (limits budget log)
    where
      by_limits : (b : Bool) → (leaves k d p budget script b buffer log).call.number ≡ 0
          → ((leaves k d p budget script b buffer log).call ≡ ran due_access d log end) × (ending_of (due_access end.machine) ≡ Ok tt)
      by_limits true h = absurd (omega arith)
      by_limits false h = (refl, zero_is_ok _ h)

  exact : call.number ≡ 0 → 0 < p.total → call.result.accesses ≡ 4 + 4 * p.send + 4 * p.receive + 3 * waits k d p budget script
  exact ok some =
      ap (λ (x : Left). x.result.accesses) (passed ok).0
      ∙ ok_began k d p budget script
      (λ (t : Transfer).
      length (run due_access resumed p.words script budget (start t)).log
      ≡ 4 + 4 * p.send + 4 * p.receive + 3 * unready_polls script p.words budget (start t))
      (λ (z : p.total ≡ 0). absurd (omega arith))
      (λ command. ok_exactly script p.words d command budget p.send p.receive) (passed ok).1

  shown : call.number ≡ 0 → waits k d p budget script ≡ polls_again call.result.accesses call.log
  shown ok =
      ok_began k d p budget script
      (λ (t : Transfer). unready_polls script p.words budget (start t)
      ≡ (let l = (run due_access resumed p.words script budget (start t)).log in polls_again (length l) (log_over log l)))
      (λ (z : p.total ≡ 0). empty_listed k d p budget script log)
      (λ command. ok_listed script p.words d command budget p.send p.receive log) (passed ok).1
      ∙ ap (λ (x : Left). polls_again x.result.accesses x.log) (sym (passed ok).0)

  none : p.total ≡ 0 → call.result.accesses ≡ 0
  none z = by_limits (limits budget log)
    where
      by_limits : (b : Bool) → (leaves k d p budget script b buffer log).call.result.accesses ≡ 0
      by_limits true = refl
      by_limits false = empty_made k d p budget script (eqb p.total 0) _ (eq-eqb p.total 0 z)

  pub plan_bill : (each : ℕ) → 4 * p.send + 4 * p.receive ≡ each * word_count k p.total
      → AccessBill k p.total each (waits k d p budget script) call.number call.result.accesses call.log
  plan_bill each words = record {
    exactly = λ ok some. omega (arith, words, exact ok (words_of_some k p.total some));
    none = none;
    at_most = by_total p.total refl;
    listed = shown;
  }
    where
      by_total : (n : ℕ) → p.total ≡ n → call.number ≡ 0
          → call.result.accesses ≤ 4 + each * word_count k p.total + 3 * waits k d p budget script
      by_total zero t ok = omega (arith, none t)
      by_total (suc n) t ok = omega (arith, words, exact ok (omega arith))

-- THE FOUR TRANSFERS, of what the functions return: 8 accesses a word where it goes both ways, 4 where it goes one way
module _ (k : ℕ) (d : Lpspi) (budget : ℕ) (script log : List ℕ) {r : RunResult} {log' buffer' : List ℕ} where
  returned : {t : TransferLeft} (total each w : ℕ) → AccessBill k total each w t.call.number t.call.result.accesses t.call.log
      → transfer_left r log' buffer' ≡ t → AccessBill k total each w (number_of r.ending) r.accesses log'
  returned total each w bill e =
      subst (λ (t : TransferLeft). AccessBill k total each w t.call.number t.call.result.accesses t.call.log) (sym e)
      bill

  pub separate_bill : (read write : List ℕ) → transfer_left r log' buffer' ≡ exchange_separate k d read write budget script log
      → AccessBill k (max (length read) (length write)) 8 (waits k d (separate_plan k d read write) budget script)
      (number_of r.ending) r.accesses log'
  separate_bill read write = returned _ _ _ (plan_bill k d budget script log (separate_plan k d read write) read 8 (omega arith))

  pub in_place_bill : (buf : List ℕ) → transfer_left r log' buffer' ≡ exchange k d buf budget script log
      → AccessBill k (length buf) 8 (waits k d (in_place_plan k d buf) budget script) (number_of r.ending) r.accesses log'
  in_place_bill buf = returned _ _ _ (plan_bill k d budget script log (in_place_plan k d buf) buf 8 (omega arith))

  pub write_bill : (buf : List ℕ) → transfer_left r log' buffer' ≡ write_no_read k d buf budget script log
      → AccessBill k (length buf) 4 (waits k d (write_plan k d buf) budget script) (number_of r.ending) r.accesses log'
  write_bill buf = returned _ _ _ (plan_bill k d budget script log (write_plan k d buf) [] 4 (omega arith))

  pub read_bill : (buf : List ℕ) → transfer_left r log' buffer' ≡ read_no_write k d buf budget script log
      → AccessBill k (length buf) 4 (waits k d (read_plan k d buf) budget script) (number_of r.ending) r.accesses log'
  read_bill buf = returned _ _ _ (plan_bill k d budget script log (read_plan k d buf) buf 4 (omega arith))
