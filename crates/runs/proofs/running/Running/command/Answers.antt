-- `command` meets its contract: a poll that is not ready, or the command.
-- Assumes nothing.
use Rattle.std.proofs.Common.{◌∙◌, ap}
use Rattle.words.specs.declared.transaction.Direction.TheVariants.{Tx}
use Rattle.machine.specs.Transfer.{at_start}
use Rattle.runs.specs.declared.drive.Spot.{Spot}
use Rattle.runs.proofs.DriveLaws.{kept_on}
use Rattle.runs.proofs.TurnLaws.{as_ready, as_unready, space_waits, space_found, space_commands}
use Rattle.runs.proofs.running.Running.command.Goals as goal

pub loop-preserved : goal.loop-preserved
loop-preserved c =
    let l = c.loop in
    let k = c.poll in
    let whole = as_unready Tx l.self k.new.self c.in_ok-poll.field-0 c.if-not-branch.true c.in_ok-poll.ensures.looked in (
      kept_on l.invariant.0 k.ensures.kept,
      ap (λ (x : Spot). x.received) whole.moved ∙ l.invariant.1,
      λ q n m old olds h.
          let t = at_start q c.args.command n m in
          space_waits old olds t l.self k.new.self k.ensures.kept t.work t.reset whole (l.invariant.2 q n m old olds h),
    )

pub returns-clause-waited : goal.returns-clause-waited
returns-clause-waited c =
    let l = c.loop in
    let k = c.poll in
    let x = c.access in
    let whole = as_ready Tx l.self k.new.self c.in_ok-poll.field-0 c.if-not-branch.false c.in_ok-poll.ensures.looked in
    λ q n m old olds h.
    let t = at_start q c.args.command n m in
    space_commands old olds t k.new.self x.new.self x.result t.work t.reset x.ensures.kept x.ensures.accessed
    (space_found old olds t l.self k.new.self k.ensures.kept t.work t.reset whole (l.invariant.2 q n m old olds h))
