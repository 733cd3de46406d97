-- The four transfers as runs (document 01, Accesses and transfers), for elements of k bits.
-- Assumes nothing.
use Rattle.std.specs.Prelude.{ℕ, ◌*◌, max, true, cond, List, [], eqb, length, Ok, Err}
use Rattle.manual.specs.declared.Tcr.TheVariants.{RXMSK, TXMSK}
use Rattle.words.specs.declared.transaction.LpspiError.TheVariants.{FrameSize}
use Rattle.words.specs.Word.{laid}
use Rattle.words.specs.Buffer.{word_count, word_at, unpack_words}
use Rattle.words.specs.Command.{frame_accepted, commanded, set_flag}
use Rattle.sequences.specs.declared.access.RunError.TheVariants.{Driver}
use Rattle.sequences.specs.declared.driver.Lpspi.{Lpspi}
use Rattle.machine.specs.declared.transfer.Transfer.{Transfer}
use Rattle.sequences.specs.Driver.{driver_command}
use Rattle.machine.specs.Transfer.{start_transfer, ended_transfer, due_access, resumed}
use Rattle.runs.specs.declared.result.RunResult.{RunResult}
use Rattle.runs.specs.Run.{State, Left, left, limits, over_limits, run, start, ran}

-- what a transfer is: its total length in elements, what is set in its command beside what the driver sets, the FIFO words that it sends
-- and receives, and the word sent at a place, by the words received so far
pub record Plan : Type 0 where
  pub total : ℕ
  pub command : ℕ → ℕ
  pub send : ℕ
  pub receive : ℕ
  pub words : List ℕ → ℕ → ℕ

-- empty test; frame size; else the transfer starts. The first two end it before any access
abbrev pub begun : ℕ → Lpspi → Plan → Transfer
begun k d p =
    let f = k * p.total in
    cond (eqb p.total 0) (ended_transfer d (Ok tt))
    (cond (frame_accepted f) (start_transfer d (commanded (λ w. p.command (driver_command d w)) f).value p.send p.receive)
    (ended_transfer d (Err (Driver FrameSize))))

-- what a transfer leaves: what every call leaves, and its buffer
pub record TransferLeft : Type 0 where
  pub call : Left
  pub buffer : List ℕ

abbrev pub transfer_left : RunResult → List ℕ → List ℕ → TransferLeft
transfer_left r log buffer = record { call = left r log; buffer = buffer }

abbrev pub transfer_states : ℕ → Lpspi → Plan → List ℕ → ℕ → State Transfer
transfer_states k d p script budget = run due_access resumed p.words script budget (start (begun k d p))

-- the call: number 5, or the run; the elements received so far stand over the front of the buffer, the others are kept
abbrev pub transferred : ℕ → Lpspi → Plan → List ℕ → ℕ → List ℕ → List ℕ → TransferLeft
transferred k d p buffer budget script log =
    cond (limits budget log) (record { call = over_limits d log; buffer = buffer })
    (let s = transfer_states k d p script budget in
    record { call = ran due_access d log s; buffer = laid (unpack_words d.order k p.total s.received) buffer })

-- the total length is the longer buffer's; the write buffer is sent
abbrev pub separate_plan : ℕ → Lpspi → List ℕ → List ℕ → Plan
separate_plan k d read write =
    let total = max (length read) (length write) in
    record {
      total = total;
      command = λ w. w;
      send = word_count k total;
      receive = word_count k total;
      words = λ rs. word_at d.order k total write;
    }

-- in place, an element already received over is sent as received
abbrev pub in_place_plan : ℕ → Lpspi → List ℕ → Plan
in_place_plan k d buf =
    let total = length buf in
    record {
      total = total;
      command = λ w. w;
      send = word_count k total;
      receive = word_count k total;
      words = λ rs. word_at d.order k total (laid (unpack_words d.order k total rs) buf);
    }

-- sets RXMSK and only sends
abbrev pub write_plan : ℕ → Lpspi → List ℕ → Plan
write_plan k d buf =
    let total = length buf in
    record {
      total = total;
      command = set_flag RXMSK true;
      send = word_count k total;
      receive = 0;
      words = λ rs. word_at d.order k total buf;
    }

-- sets TXMSK and only receives
abbrev pub read_plan : ℕ → Lpspi → List ℕ → Plan
read_plan k d buf =
    let total = length buf in
    record { total = total; command = set_flag TXMSK true; send = 0; receive = word_count k total; words = λ rs i. 0 }

-- THE FOUR TRANSFERS, from driver value, buffers, budget, script and log
abbrev pub exchange_separate : ℕ → Lpspi → List ℕ → List ℕ → ℕ → List ℕ → List ℕ → TransferLeft
exchange_separate k d read write = transferred k d (separate_plan k d read write) read

abbrev pub exchange : ℕ → Lpspi → List ℕ → ℕ → List ℕ → List ℕ → TransferLeft
exchange k d buf = transferred k d (in_place_plan k d buf) buf

abbrev pub write_no_read : ℕ → Lpspi → List ℕ → ℕ → List ℕ → List ℕ → TransferLeft
write_no_read k d buf = transferred k d (write_plan k d buf) []

abbrev pub read_no_write : ℕ → Lpspi → List ℕ → ℕ → List ℕ → List ℕ → TransferLeft
read_no_write k d buf = transferred k d (read_plan k d buf) buf
