-- What a cursor writes (private contracts cite it).
-- Assumes nothing.
use Rattle.std.specs.Prelude.{ℕ, ◌+◌, ◌*◌, ◌≤◌, ◌≡◌, List, length}
use Rattle.runs.specs.declared.result.RunResult.{RunResult}
use Rattle.lines.specs.Text.{written}
use Rattle.lines.specs.declared.print.Cursor.{Cursor}

-- a text behind what stood there, in the same buffer
pub record Puts (before after : Cursor) (text : List ℕ) : Type 0 where
  pub same : after.out.ghost_name ≡ before.out.ghost_name
  pub at : after.at ≡ before.at + length text
  pub fits : after.at ≤ length after.out.now
  pub size : length after.out.now ≡ length before.out.now
  pub out : after.out.now ≡ written before.out.now before.at text

-- a result, its log and n elements that were read, which fit the longest listing
pub record Listable (r : RunResult) (log : List ℕ) (n : ℕ) : Type 0 where
  pub accesses : r.accesses ≤ 8000
  pub pairs : 2 * r.accesses ≤ length log
  pub answers : r.answers ≤ r.accesses
  pub read : n ≤ 512
