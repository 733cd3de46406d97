-- `write_no_read` meets its contract: packed, run over FIFO words.
-- Assumes nothing.
use Rattle.std.proofs.Common.{sym, length}
use Rattle.words.proofs.Numbers.{length_numbers}
use Rattle.transfers.proofs.EntryLaws.{write_left}
use Rattle.transfers.proofs.write_no_read.write_no_read.Goals as goal

pub returns : goal.returns
returns g c =
    let t = g.T.Word in
    let a = c.args in
    write_left t.width a.driver a.budget a.script.now a.log.now c.result.ensures c.bit_order-order.ensures c.width.result c.width.ensures
    (length a.buf.now) (t.numbers a.buf.now) (sym (length_numbers t.laws a.buf.now)) c.pack_words.new.words c.pack_words.ensures
    c.transfer-driven.ensures
