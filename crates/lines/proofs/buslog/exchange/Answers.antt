-- `exchange` meets its contract: the log's places and the read buffer are zeros.
-- Assumes nothing.
use Rattle.std.proofs.Common.{ℕ, ◌*◌, ◌≡◌, take, min, length-take-le, arith, ap, ◌∙◌, subst}
use Rattle.words.specs.Width.{width_bits}
use Rattle.words.proofs.Numbers.{numbers_take}
use Rattle.sequences.specs.Driver.{with_order}
use Rattle.lines.specs.Buslog.{zeros, listing, Printed}
use Rattle.lines.proofs.PrintedLaws.{take_zeros, exchange_counts, same_exchange}
use Rattle.lines.proofs.buslog.exchange.Goals as goal

pub list-requires : goal.list-requires
list-requires g c =
    let s = c.exchange_separate-r in
    let a = c.args.asked in
    let n = g.T.Word.numbers in
    let log = take (2 * c.min.result) (zeros 16000) in
    let counts =
    exchange_counts (width_bits g.T.Word.width) c.with_bit_order-driver.result (n (take a.read c.args.read.now)) (n a.write.now) a.budget
    a.script.now log s.result s.new.log (n s.new.read) s.ensures in
    record {
      accesses = counts.accesses;
      pairs = omega (arith, counts.pairs, s.auto.log);
      answers = counts.answers;
      read = omega (arith, s.auto.read, length-take-le a.read c.args.read.now (omega (arith, a.read_few, c.told-read)), a.read_few);
    }

pub returns : goal.returns
returns g c =
    let a = c.args.asked in
    let n = g.T.Word.numbers in
    let k = width_bits g.T.Word.width in
    let driver = c.with_bit_order-driver.ensures ∙ ap (with_order a.order) c.new.ensures in
    let read : n (take a.read c.args.read.now) ≡ zeros a.read =
    numbers_take g.T.Word.laws a.read c.args.read.now ∙ ap (take a.read) c.requires ∙ take_zeros 512 a.read a.read_few in
    let log : take (2 * c.min.result) (zeros 16000) ≡ zeros (2 * min a.budget 8000) =
    take_zeros 16000 (2 * c.min.result) (omega (arith, c.min.ensures)) ∙ ap (λ (m : ℕ). zeros (2 * m)) c.min.ensures in
    subst (λ t. Printed (listing k t) c.args.out.now c.list.new.out c.list.result)
    (c.exchange_separate-r.ensures ∙ same_exchange k _ _ _ _ (n a.write.now) a.budget a.script.now _ _ driver read log) c.list.ensures
