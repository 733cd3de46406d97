-- `tried` meets its contract: the trial's.
-- Assumes nothing.
use Prim.Native.Nat.{◌/◌}
use mathlib.Core.Path.{ap, ◌∙◌}
use Rattle.words.specs.declared.width.Width.{Width}
use Rattle.c_api.specs.HostBus.{board_of}
use Rattle.c_api.proofs.PairLaws.{host_trial_lem}
use Rattle.c_api.proofs.pair.tried.Goals as goal

pub returns : goal.returns
returns g c =
    let a = c.args in
    let t = c.trial-left in
    host_trial_lem g.T.Word.width t.result _ _ c.board-gate.result c.board-antenna.result
    a.gate_driver a.antenna_driver a.inplace a.gate_exponent a.antenna_exponent _ _ _ _ a.events.now a.state.now
    c.report.new.state c.report.result
    (c.board-gate.ensures
    ∙ ap (λ (w : Width). board_of w c.args.gate_driver c.args.inplace c.args.gate_exponent) c.width.ensures)
    (c.board-antenna.ensures
    ∙ ap (λ (w : Width). board_of w c.args.antenna_driver (c.args.inplace / 2) c.args.antenna_exponent) c.width-2.ensures)
    t.ensures c.report.ensures.number c.report.ensures.state
