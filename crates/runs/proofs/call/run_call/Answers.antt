-- `run_call` meets its contract: number 5, or the run.
-- Assumes nothing.
use Rattle.std.proofs.Common.{rules, ◌≡◌, [], sym, subst, ◌∙◌}
use Rattle.runs.specs.declared.drive.Spot.{Spot}
use Rattle.runs.specs.Call.{call_left, call_run}
use Rattle.runs.specs.Running.{Stands}
use Rattle.runs.specs.Turns.{spot}
use Rattle.runs.proofs.DriveLaws.{stands_start}
use Rattle.runs.proofs.CallRunLaws.{calling, calling_due, calling_after, called, call_limits, call_ended, call_run_lem}
use Rattle.runs.proofs.WordlessLaws.{no_frame}
use Rattle.runs.proofs.call.run_call.Goals as goal

pub returns-then-limits : goal.returns-then-limits
returns-then-limits c =
    let a = c.args in
    call_limits a.driver a.call a.budget a.script.now a.log.now c.start.result
    (sym c.limits.ensures ∙ c.if-limits.true) c.start.ensures

pub returns : goal.returns
returns c =
    let a = c.args in
    let zero : c.default.result ≡ spot 0 0 0 = search rules in
    let m = calling a.call c.start-2.result in
    let begun =
    subst
    (λ (x : Spot). Stands calling_due calling_after no_frame a.script.now [] a.log.now [] m m x a.log.now [])
    (sym zero)
    (stands_start calling_due calling_after no_frame a.script.now [] a.log.now [] m) in
    let d = c.drive-ending in
    let r = d.new.self in
    let e = d.ensures.ended m a.log.now [] begun in
    let left : call_left (called d.result.0 r.spot.made r.spot.used d.result.1.sequence) r.log.now
    ≡ call_run a.driver a.call a.budget a.script.now a.log.now =
    call_ended a.call a.driver a.budget a.script.now a.log.now d.result.1 d.result.0 r c.start-2.result c.start-2.ensures
    d.ensures.kept.frame d.ensures.kept.budget d.ensures.kept.script d.ensures.kept.sent_words e
    ∙ call_run_lem a.driver a.call a.budget a.script.now a.log.now (sym c.limits.ensures ∙ c.if-limits.false) in
    search (rules, left)
