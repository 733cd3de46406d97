-- `show` meets its contract: both ends, and behind them the commands.
-- Assumes nothing.
use Rattle.bus.specs.View.{state_of}
use Rattle.c_api.proofs.PairLaws.{laid_both, commands_queued}
use Rattle.c_api.proofs.pair.show.Goals as goal

pub returns : goal.returns
returns c =
    let a = c.args in
    let g = a.gate.now.station.port in
    let t = a.antenna.now.station.port in
    rw (
      c.lay.ensures,
      c.show_end-2.ensures,
      c.show_end.ensures,
      ← laid_both (state_of a.gate.now) (state_of a.antenna.now) a.state.now,
      commands_queued g.commands g.transmit,
      commands_queued t.commands t.transmit,
    )
