-- THE ACCESS BILL (document 02, No. 1) of the number and the count that a host is handed by `lpspi_transfer_*`: `host_left number ..` stands
-- in its contract. Assumes nothing.
use Prim.Native.Nat.{ℕ, ◌%◌, max}
use mathlib.Core.List.{List, []}
use mathlib.Core.Path.{◌≡◌, refl, ap, ◌∙◌}
use native.Mathlib.Omega.{arith}
use lib.ListN.{length}
use Rattle.sequences.specs.declared.driver.Lpspi.{Lpspi}
use Rattle.runs.specs.Run.{Left}
use Rattle.transfers.specs.Transfers.{separate_plan, in_place_plan, write_plan, read_plan, exchange_separate, exchange, write_no_read, read_no_write}
use Rattle.bill.specs.AccessBill.{AccessBill, waits}
use Rattle.bill.proofs.BillLaws.{plan_bill}
use Rattle.c_api.specs.HostRun.{HostLeft, host_left, driver_of, of_transfer, transfer_by}

module _ (kind k word : ℕ) (read write : List ℕ) (budget : ℕ) (script log : List ℕ)
    {number driver accesses answers : ℕ} {log' read' : List ℕ}
    (e : host_left number driver accesses answers log' read'
    ≡ of_transfer word (transfer_by kind k (driver_of word) read write budget script log)) where
  abbrev d : Lpspi
  d = driver_of word

  -- the bill of the transfer that was asked for is that of what was handed over
  handed : (c : Left) (total each w : ℕ) → (transfer_by kind k d read write budget script log).call ≡ c
      → AccessBill k total each w c.number c.result.accesses c.log → AccessBill k total each w number accesses log'
  handed c total each w asked bill =
      let m : number ≡ c.number = ap (λ (h : HostLeft). h.number) e ∙ ap (λ (x : Left). x.number) asked in
      let n : accesses ≡ c.result.accesses = ap (λ (h : HostLeft). h.accesses) e ∙ ap (λ (x : Left). x.result.accesses) asked in
      let l : log' ≡ c.log = ap (λ (h : HostLeft). h.log) e ∙ ap (λ (x : Left). x.log) asked in
      rw (m, n, l) bill

  pub host_separate_bill : kind % 4 ≡ 0
      → AccessBill k (max (length read) (length write)) 8
      (waits k d (separate_plan k d read write) budget script) number accesses log'
  host_separate_bill h =
      handed (exchange_separate k d read write budget script log).call _ _ _ (rw h refl)
      (plan_bill k d budget script log (separate_plan k d read write) read 8 (omega arith))

  pub host_in_place_bill : kind % 4 ≡ 1 → AccessBill k (length read) 8 (waits k d (in_place_plan k d read) budget script) number accesses log'
  host_in_place_bill h =
      handed (exchange k d read budget script log).call _ _ _ (rw h refl)
      (plan_bill k d budget script log (in_place_plan k d read) read 8 (omega arith))

  pub host_write_bill : kind % 4 ≡ 2 → AccessBill k (length write) 4 (waits k d (write_plan k d write) budget script) number accesses log'
  host_write_bill h =
      handed (write_no_read k d write budget script log).call _ _ _ (rw h refl)
      (plan_bill k d budget script log (write_plan k d write) [] 4 (omega arith))

  pub host_read_bill : kind % 4 ≡ 3 → AccessBill k (length read) 4 (waits k d (read_plan k d read) budget script) number accesses log'
  host_read_bill h =
      handed (read_no_write k d read budget script log).call _ _ _ (rw h refl)
      (plan_bill k d budget script log (read_plan k d read) read 4 (omega arith))
