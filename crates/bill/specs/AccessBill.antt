-- The access bill of a transfer (document 02, No. 1).
-- Assumes nothing.
use Rattle.std.specs.Prelude.{ℕ, ◌+◌, ◌*◌, ◌≤◌, List, ◌≡◌}
use Rattle.words.specs.Buffer.{word_count}
use Rattle.sequences.specs.declared.driver.Lpspi.{Lpspi}
use Rattle.runs.specs.Run.{start}
use Rattle.transfers.specs.Transfers.{Plan, begun}
use Rattle.bill.specs.Unready.{unready_polls}
use Rattle.bill.specs.Listed.{polls_again}

-- w of a call: the unready polls of its run
abbrev pub waits : ℕ → Lpspi → Plan → ℕ → List ℕ → ℕ
waits k d p budget script = unready_polls script p.words budget (start (begun k d p))

-- `total` elements of k bits are n FIFO words; each costs `each` accesses, 8 where it goes both ways and 4 where it goes one way. Number,
-- count and log are those that the call answers
pub record AccessBill (k total each w number accesses : ℕ) (log : List ℕ) : Type 0 where
  -- "An Ok exchange of n words, n at least 1, with w unready polls makes exactly 4 + 8n + 3w accesses; the one-way transfers exactly
  -- 4 + 4n + 3w."
  pub exactly : number ≡ 0 → 1 ≤ word_count k total → accesses ≡ 4 + each * word_count k total + 3 * w
  -- "An empty transfer makes none."
  pub none : total ≡ 0 → accesses ≡ 0
  -- document 01: "makes at most 4 + 8n + 3w accesses", the empty transfer included
  pub at_most : number ≡ 0 → accesses ≤ 4 + each * word_count k total + 3 * w
  -- w can be counted off the log that the call leaves
  pub listed : number ≡ 0 → w ≡ polls_again accesses log
