-- `run_words` meets its contract: number 5; or the run, taken ahead where it begins, and then driven to its end.
-- Assumes nothing.
use Rattle.std.proofs.Common.{rules, ◌≡◌, sym, ap, subst, ◌∙◌}
use Rattle.machine.specs.Transfer.{due_access, resumed}
use Rattle.runs.specs.declared.drive.Spot.{Spot}
use Rattle.std.specs.Prelude.{Err}
use Rattle.sequences.specs.declared.access.RunError.TheVariants.{Limits}
use Rattle.runs.specs.Drive.{driven_left, words_run}
use Rattle.runs.specs.Running.{Stands}
use Rattle.runs.specs.Turns.{spot}
use Rattle.runs.proofs.DriveLaws.{stands_start, kept_on, words_limits, words_ended, words_run_lem}
use Rattle.runs.proofs.transfer.run_words.Goals as goal

pub returns-then-limits : goal.returns-then-limits
returns-then-limits c =
    let a = c.args in
    let zero : c.default.result ≡ spot 0 0 0 = search rules in
    ap (λ (x : Spot). driven_left (record { ending = Err Limits; spot = x }) a.log.now a.received_words.now) zero
    ∙ words_limits a.transfer a.frame a.budget a.script.now a.sent_words.now a.log.now a.received_words.now
    (sym c.limits.ensures ∙ c.if-limits.true)

pub returns : goal.returns
returns c =
    let a = c.args in
    let zero : c.default-2.result ≡ spot 0 0 0 = search rules in
    let begun =
    subst
    (λ (x : Spot). Stands due_access resumed a.frame a.script.now a.sent_words.now a.log.now a.received_words.now
    a.transfer a.transfer x a.log.now a.received_words.now)
    (sym zero)
    (stands_start due_access resumed a.frame a.script.now a.sent_words.now a.log.now a.received_words.now a.transfer) in
    let k = c.ahead-rest in
    let d = c.drive-ending in
    let r = d.new.self in
    let e =
    d.ensures.ended a.transfer a.log.now a.received_words.now
    (k.ensures.ahead a.log.now a.received_words.now (ap (λ (x : Spot). x.received) zero) begun) in
    let all = kept_on k.ensures.kept d.ensures.kept in
    let left : driven_left (record { ending = d.result.0; spot = r.spot }) r.log.now r.received_words.now
    ≡ words_run a.transfer a.frame a.budget a.script.now a.sent_words.now a.log.now a.received_words.now =
    words_ended a.frame a.budget a.script.now a.sent_words.now a.log.now a.received_words.now a.transfer d.result.1 d.result.0 r
    all.frame all.budget all.script all.sent_words e
    ∙ words_run_lem a.transfer a.frame a.budget a.script.now a.sent_words.now a.log.now a.received_words.now
    (sym c.limits.ensures ∙ c.if-limits.false) in
    search (rules, left)
