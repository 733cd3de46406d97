-- Runs for a host: the driver value as a number, and what a run leaves: a number that is returned, the next driver value, two counts and a
-- value where they go, the log and the buffer.
-- Assumes nothing.
use Rattle.std.specs.Prelude.{ℕ, ◌+◌, ◌*◌, ◌/◌, ◌%◌, cond, List, [], eqb}
use Rattle.words.specs.declared.mode.Mode.{Mode}
use Rattle.words.specs.Command.{lsbf_of, cpol_of, cpha_of, pcs_of}
use Rattle.sequences.specs.declared.driver.Lpspi.{Lpspi}
use Rattle.runs.specs.Run.{Left}
use Rattle.transfers.specs.Transfers.{TransferLeft, exchange_separate, exchange, write_no_read, read_no_write}
use Rattle.c_api.specs.Host.{order_from, mode_from, pcs_from}

-- a driver value as a number: SCKDIV in bits 7..0, DBT in 15..8, the chip select in 17..16, the mode in 19..18, bit 20 for LSB
abbrev pub driver_of : ℕ → Lpspi
driver_of w = record {
  order = order_from (eqb (w / 0x100000 % 2) 1);
  mode = mode_from (w / 0x40000);
  pcs = pcs_from (w / 0x10000);
  cache = record { dbt = w / 0x100 % 256; sckdiv = w % 256 };
}

abbrev pub mode_number : Mode → ℕ
mode_number m = cpol_of m.polarity * 2 + cpha_of m.phase

abbrev pub driver_number : Lpspi → ℕ
driver_number d = (((lsbf_of d.order * 4 + mode_number d.mode) * 4 + pcs_of d.pcs) * 256 + d.cache.dbt) * 256 + d.cache.sckdiv

-- the host's word with the driver value d in bits 20..0; bits 31..21 are the host's, and stay as they were
abbrev pub driver_left : ℕ → Lpspi → ℕ
driver_left word d = word / 0x200000 * 0x200000 + driver_number d

pub record HostLeft : Type 0 where
  pub number : ℕ
  pub driver : ℕ
  pub accesses : ℕ
  pub answers : ℕ
  pub log : List ℕ
  pub buffer : List ℕ

abbrev pub host_left : ℕ → ℕ → ℕ → ℕ → List ℕ → List ℕ → HostLeft
host_left number driver accesses answers log buffer =
    record { number = number; driver = driver; accesses = accesses; answers = answers; log = log; buffer = buffer }

-- `word` is the driver's before the run
abbrev pub of_transfer : ℕ → TransferLeft → HostLeft
of_transfer word t =
    host_left t.call.number (driver_left word t.call.result.driver) t.call.result.accesses
    t.call.result.answers t.call.log t.buffer

-- a call without a buffer
abbrev pub of_call : ℕ → Left → HostLeft
of_call word c = host_left c.number (driver_left word c.result.driver) c.result.accesses c.result.answers c.log []

-- the transfers by number, modulo 4: 0 separate, 1 in place (the read buffer), 2 write only, which leaves the read buffer as found,
-- 3 read only
abbrev pub transfer_by : ℕ → ℕ → Lpspi → List ℕ → List ℕ → ℕ → List ℕ → List ℕ → TransferLeft
transfer_by kind k d read write budget script log =
    cond (eqb (kind % 4) 0) (exchange_separate k d read write budget script log)
    (cond (eqb (kind % 4) 1) (exchange k d read budget script log)
    (cond (eqb (kind % 4) 2) (record { call = (write_no_read k d write budget script log).call; buffer = read })
    (read_no_write k d read budget script log)))
