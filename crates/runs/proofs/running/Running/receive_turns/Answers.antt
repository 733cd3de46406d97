-- `receive_turns` meets its contract: a poll that is not ready, or a word.
-- Assumes nothing.
use Rattle.words.specs.declared.transaction.Direction.TheVariants.{Tx, Rx}
use Rattle.runs.specs.Turns.{turn}
use Rattle.runs.proofs.DriveLaws.{kept_on}
use Rattle.runs.proofs.TurnLaws.{as_ready, as_unready, receive_waits, receive_goes, onward_on}
use Rattle.runs.proofs.running.Running.receive_turns.Goals as goal

pub returns-then-not-ready-clause-onward : goal.returns-then-not-ready-clause-onward
returns-then-not-ready-clause-onward c =
    let p = c.args.plan in
    let n = c.args.sent in
    let l = c.loop-self in
    let k = c.poll in
    onward_on p (turn Rx n) (turn Rx n) (turn Tx n) c.args.self.now l.self k.new.self l.invariant.1
    (receive_waits p l.self k.new.self n k.ensures.kept c.loop-self-test.true
    (as_unready Rx l.self k.new.self c.in-Some.ready c.if-not-ready.true c.in-Some.ensures.looked))

pub loop-self-preserved : goal.loop-self-preserved
loop-self-preserved c =
    let p = c.args.plan in
    let n = c.args.sent in
    let l = c.loop-self in
    let k = c.poll in
    let x = c.make in (
      kept_on l.invariant.0 (kept_on k.ensures.kept x.ensures.kept),
      onward_on p (turn Rx n) (turn Rx n) (turn Rx n) c.args.self.now l.self x.new.self l.invariant.1
          (receive_goes p l.self k.new.self x.new.self x.result n k.ensures.kept x.ensures.kept c.loop-self-test.true c.if-self.false
          (as_ready Rx l.self k.new.self c.in-Some.ready c.if-not-ready.false c.in-Some.ensures.looked) x.ensures.accessed),
    )
