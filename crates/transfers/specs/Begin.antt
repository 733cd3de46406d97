-- What a transfer begins as, of its sides and its total length alone, and its run over FIFO words, whatever its elements.
-- Assumes nothing.
use Rattle.std.specs.Prelude.{ℕ, true, List}
use Rattle.manual.specs.declared.Tcr.TheVariants.{RXMSK, TXMSK}
use Rattle.words.specs.Buffer.{word_count}
use Rattle.words.specs.Command.{set_flag}
use Rattle.words.specs.Width.{width_bits}
use Rattle.sequences.specs.declared.driver.Lpspi.{Lpspi}
use Rattle.runs.specs.declared.drive.Frame.{Frame}
use Rattle.runs.specs.Drive.{DrivenLeft, words_run}
use Rattle.transfers.specs.declared.begin.Ways.{Ways}
use Rattle.transfers.specs.declared.begin.Ways.TheVariants.{Both, Sends, Receives}
use Rattle.transfers.specs.Transfers.{Plan, begun}

-- the FIFO words to send, of n each way
abbrev pub sends_of : Ways → ℕ → ℕ
sends_of Both n = n
sends_of Sends n = n
sends_of Receives n = 0

-- the FIFO words to receive
abbrev pub receives_of : Ways → ℕ → ℕ
receives_of Both n = n
receives_of Sends n = 0
receives_of Receives n = n

-- "`write_no_read` sets RXMSK and only sends, `read_no_write` sets TXMSK and only receives"
abbrev pub masked_by : Ways → ℕ → ℕ
masked_by Both w = w
masked_by Sends w = set_flag RXMSK true w
masked_by Receives w = set_flag TXMSK true w

-- the plan of a transfer of so many elements of k bits, but for the words sent, which `begun` does not look at
abbrev pub length_plan : ℕ → Ways → ℕ → Plan
length_plan k ways total =
    let n = word_count k total in
    record { total = total; command = masked_by ways; send = sends_of ways n; receive = receives_of ways n; words = λ rs i. 0 }

-- (private contracts cite it) number 5, all as found, or the run of what begins
abbrev pub words_transfer : Lpspi → Ways → Frame → ℕ → List ℕ → List ℕ → List ℕ → List ℕ → DrivenLeft
words_transfer d ways f budget script send log olds =
    let k = width_bits f.width in
    words_run (begun k d (length_plan k ways f.total)) f budget script send log olds
