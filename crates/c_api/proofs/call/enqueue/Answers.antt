-- `enqueue` meets its contract: number 5, then 1, or the run of its call.
-- Assumes nothing.
use mathlib.Core.Path.{◌≡◌, ap, sym, ◌∙◌}
use Rattle.words.specs.declared.transaction.Transaction.{Transaction}
use Rattle.words.specs.Command.{command_answer}
use Rattle.words.proofs.CommandLaws.{accepted_word}
use Rattle.sequences.specs.Driver.{driver_command}
use Rattle.sequences.specs.declared.call.Call.TheVariants.{EnqueueTransaction}
use Rattle.runs.specs.Call.{call_run}
use Rattle.calls.specs.Calls.{ran_call}
use Rattle.c_api.specs.HostCall.{transaction_of}
use Rattle.c_api.proofs.call.enqueue.Goals as goal

-- a command that was made is the one of its word
of_word : (t : Transaction) {w : _} → t.0 ≡ w → t ≡ transaction_of w
of_word t e = ap transaction_of e

pub returns : goal.returns
returns c =
    let a = c.args in
    let yes = accepted_word a.frame_size _ (ap command_answer (sym c.in-Ok.is) ∙ c.command_of.ensures) in
    let t = of_word c.bus_transaction.result (c.bus_transaction.ensures ∙ ap (driver_command a.driver) yes.1) in
    rw (sym c.limits.ensures ∙ c.if-limits.false, yes.0)
    (c.enqueue_transaction.ensures
    ∙ ap
    (λ (p : Transaction). ran_call (call_run a.driver (EnqueueTransaction p) a.budget a.script.now a.log.now)) t)
