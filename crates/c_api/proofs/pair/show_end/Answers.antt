-- `show_end` meets its contract: four parts, one behind the other.
-- Assumes nothing.
use mathlib.Core.Path.{sym}
use Rattle.bus.specs.View.{state_of}
use Rattle.bus.proofs.QueuedLaws.{words_queued}
use Rattle.c_api.proofs.PairLaws.{laid_end}
use Rattle.c_api.proofs.pair.show_end.Goals as goal

pub returns : goal.returns
returns c =
    let a = c.args in
    let port = a.end.now.station.port in
    rw (
      c.lay_registers.ensures,
      c.lay-3.ensures,
      c.lay-2.ensures,
      c.lay.ensures,
      c.places-2.ensures,
      c.places.ensures,
      c.head_words.ensures,
    )
    (laid_end a.from (state_of a.end.now) a.state.now (sym (words_queued port.commands port.transmit)))
