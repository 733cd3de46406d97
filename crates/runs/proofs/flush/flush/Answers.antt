-- `flush` meets its contract: number 5, or the loop.
-- Assumes nothing.
use Rattle.std.proofs.Common.{rules, ◌≡◌, [], sym, ap, subst, ◌∙◌}
use Rattle.machine.specs.declared.flush.Flush.TheVariants.{Status}
use Rattle.machine.specs.Flush.{flush_access, flushed}
use Rattle.runs.specs.declared.drive.Spot.{Spot}
use Rattle.runs.specs.declared.result.RunResult.{RunResult}
use Rattle.runs.specs.Run.{left}
use Rattle.runs.specs.Flush.{flush_run}
use Rattle.runs.specs.Running.{Stands}
use Rattle.runs.specs.Turns.{spot}
use Rattle.runs.proofs.DriveLaws.{stands_start}
use Rattle.runs.proofs.FlushLaws.{flush_result}
use Rattle.runs.proofs.WordlessLaws.{no_frame}
use Rattle.runs.proofs.flush.flush.Goals as goal

pub returns-then-limits : goal.returns-then-limits
returns-then-limits c =
    let e = sym c.limits.ensures ∙ c.if-limits.true in rw e (ap (λ (x : RunResult). left x c.args.log.now) c.unmoved.ensures)

pub returns : goal.returns
returns c =
    let a = c.args in
    let zero : c.default.result ≡ spot 0 0 0 = search rules in
    let begun =
    subst
    (λ (x : Spot). Stands flush_access flushed no_frame a.script.now [] a.log.now [] Status Status x a.log.now [])
    (sym zero)
    (stands_start flush_access flushed no_frame a.script.now [] a.log.now [] Status) in
    let d = c.flush-ending in
    let r = d.new.self in
    let k = d.ensures.kept in
    let end : left (record { ending = d.result; accesses = r.spot.made; answers = r.spot.made; driver = a.driver }) r.log.now
    ≡ flush_run a.driver a.budget a.script.now a.log.now =
    flush_result a.driver a.budget a.script.now a.log.now d.result r (sym c.limits.ensures ∙ c.if-limits.false)
    k.frame k.budget k.script k.sent_words (d.ensures.ended a.log.now [] begun) d.ensures.reads in
    search (rules, end)
