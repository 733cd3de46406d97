-- `buslog` (document 01): a separate exchange from four lines, as text.
-- Assumes nothing.
use Rattle.std.specs.Prelude.{ℕ, ◌*◌, ◌≤◌, min, cond, List, ◌++◌, ◌≡◌, leb, length, take, replicate, codes, Option, Some, None}
use Rattle.words.specs.Word.{laid}
use Rattle.words.specs.Width.{width_bits}
use Rattle.sequences.specs.Driver.{start_driver, with_order}
use Rattle.transfers.specs.Transfers.{TransferLeft, exchange_separate}
use Rattle.lines.specs.Grammar.{Task, task}
use Rattle.lines.specs.Listing.{access_lines, element_lines, result_line}

abbrev pub zeros : ℕ → List ℕ
zeros n = replicate n 0

-- mode 0, PCS 0; the read buffer starts as zeros; the log has just the places of the budget, and of 8,000 where it is more
abbrev pub exchanged : Task → TransferLeft
exchanged j =
    let s = j.header in
    exchange_separate (width_bits s.width) (with_order s.order start_driver) (zeros j.read) j.write
    s.budget j.script (zeros (2 * min s.budget 8000))

-- accesses, read elements, then the result
abbrev pub listing : ℕ → TransferLeft → List ℕ
listing k t =
    let r = t.call.result in
    access_lines (take (2 * r.accesses) t.call.log)
    ++ (element_lines k t.buffer ++ result_line t.call.number r.accesses r.answers)

-- anything else prints `bad`
abbrev pub answer : Option Task → List ℕ
answer None = codes "bad\n"
answer (Some j) = listing (width_bits j.header.width) (exchanged j)

-- an input of more than 131,072 bytes is bad
abbrev pub buslog : List ℕ → List ℕ
buslog text = answer (cond (leb (length text) 131072) (task text) None)

-- a buffer with a text over its front, and the text's length
pub record Printed (text before after : List ℕ) (n : ℕ) : Type 0 where
  pub count : n ≡ length text
  pub fits : n ≤ length after
  pub buffer : after ≡ laid text before
