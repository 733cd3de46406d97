-- `result_line` meets its contract: its parts, each behind the one before.
-- Assumes nothing.
use Rattle.lines.proofs.WrittenLaws.{puts_then}
use Rattle.lines.proofs.print.Cursor.result_line.Goals as goal

pub returns : goal.returns
returns c =
    puts_then c.decimal.ensures.wrote
    (puts_then c.put.ensures
    (puts_then c.decimal-2.ensures.wrote
    (puts_then c.put-2.ensures (puts_then c.decimal-3.ensures.wrote c.put-3.ensures))))
