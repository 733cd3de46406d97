-- `exchange_separate` meets its contract: packed, run over FIFO words, unpacked.
-- Assumes nothing.
use Rattle.std.proofs.Common.{◌∙◌, sym, ap₂, max, length}
use Rattle.words.proofs.Numbers.{length_numbers}
use Rattle.runs.proofs.DriveLaws.{words_stored, words_length}
use Rattle.transfers.proofs.EntryLaws.{separate_left, longer_total}
use Rattle.transfers.proofs.exchange_separate.exchange_separate.Goals as goal

pub slice_bounds-words-end : goal.slice_bounds-words-end
slice_bounds-words-end g c = words_stored _ _ _ _ _ _ _ c.transfer-driven.ensures

pub slice_bounds-unpack_words-end : goal.slice_bounds-unpack_words-end
slice_bounds-unpack_words-end g c = words_length _ _ _ _ _ _ _ c.transfer-driven.ensures

pub returns : goal.returns
returns g c =
    let t = g.T.Word in
    let a = c.args in
    let read = t.numbers a.read.now in
    let write = t.numbers a.write.now in
    let total = longer_total _ _ c.longer-total.ensures ∙ ap₂ max (sym (length_numbers t.laws a.read.now)) (sym (length_numbers t.laws a.write.now)) in
    separate_left t.width a.driver a.budget a.script.now a.log.now c.result.ensures c.bit_order-order.ensures c.width.result c.width.ensures
    (length c.longer-total.result.now) read write total c.pack_words.new.words c.pack_words.ensures c.transfer-driven.ensures
    c.unpack_words.ensures
