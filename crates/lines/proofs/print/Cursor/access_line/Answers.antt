-- `access_line` meets its contract: its parts, each behind the one before.
-- Assumes nothing.
use Rattle.lines.proofs.WrittenLaws.{puts_then}
use Rattle.lines.proofs.print.Cursor.access_line.Goals as goal

pub returns-clause-wrote : goal.returns-clause-wrote
returns-clause-wrote c =
    puts_then (rw (c.kind.ensures) at c.put.ensures)
    (puts_then c.digits.ensures (puts_then c.put-2.ensures (puts_then c.digits-2.ensures c.put-3.ensures)))
