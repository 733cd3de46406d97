-- `send_turns` meets its contract: a poll that is not ready, or a word.
-- Assumes nothing.
use Rattle.std.proofs.Common.{◌+◌}
use Rattle.words.specs.declared.transaction.Direction.TheVariants.{Tx, Rx}
use Rattle.runs.specs.Turns.{turn}
use Rattle.runs.proofs.DriveLaws.{kept_on}
use Rattle.runs.proofs.TurnLaws.{as_ready, as_unready, send_waits, send_goes, onward_on}
use Rattle.runs.proofs.running.Running.send_turns.Goals as goal

pub returns-then-not-ready-clause-onward : goal.returns-then-not-ready-clause-onward
returns-then-not-ready-clause-onward c =
    let p = c.args.plan in
    let l = c.loop-sent in
    let k = c.poll in
    onward_on p (turn Tx c.args.first) (turn Tx l.sent) (turn Rx l.sent) c.args.self.now l.self k.new.self l.invariant.1
    (send_waits p l.self k.new.self l.sent k.ensures.kept c.loop-sent-test.true
    (as_unready Tx l.self k.new.self c.in-Some.ready c.if-not-ready.true c.in-Some.ensures.looked))

pub loop-sent-preserved : goal.loop-sent-preserved
loop-sent-preserved c =
    let p = c.args.plan in
    let l = c.loop-sent in
    let k = c.poll in
    let x = c.access in (
      kept_on l.invariant.0 (kept_on k.ensures.kept x.ensures.kept),
      onward_on p (turn Tx c.args.first) (turn Tx l.sent) (turn Tx (l.sent + 1)) c.args.self.now l.self x.new.self l.invariant.1
          (send_goes p l.self k.new.self x.new.self x.result l.sent k.ensures.kept x.ensures.kept c.loop-sent-test.true
          (as_ready Tx l.self k.new.self c.in-Some.ready c.if-not-ready.false c.in-Some.ensures.looked) x.ensures.accessed),
    )
