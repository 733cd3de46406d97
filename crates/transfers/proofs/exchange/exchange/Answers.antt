-- `exchange` meets its contract: packed, run over FIFO words, unpacked.
-- Assumes nothing.
use Rattle.std.proofs.Common.{sym, length}
use Rattle.words.proofs.Numbers.{length_numbers}
use Rattle.runs.proofs.DriveLaws.{words_stored, words_length}
use Rattle.transfers.proofs.EntryLaws.{in_place_left}
use Rattle.transfers.proofs.exchange.exchange.Goals as goal

pub slice_bounds-words-end : goal.slice_bounds-words-end
slice_bounds-words-end g c = words_stored _ _ _ _ _ _ _ c.transfer-driven.ensures

pub slice_bounds-unpack_words-end : goal.slice_bounds-unpack_words-end
slice_bounds-unpack_words-end g c = words_length _ _ _ _ _ _ _ c.transfer-driven.ensures

pub returns : goal.returns
returns g c =
    let t = g.T.Word in
    let a = c.args in
    in_place_left t.width a.driver a.budget a.script.now a.log.now c.result.ensures c.bit_order-order.ensures c.width.result c.width.ensures
    (length a.buf.now) (t.numbers a.buf.now) (sym (length_numbers t.laws a.buf.now)) c.pack_words.new.words c.pack_words.ensures
    c.transfer-driven.ensures c.unpack_words.ensures
