-- Ok twice (agreement `OkTwice`) is document 01's "answered 0" twice, as a host reads it: both numbers are 0.
-- Assumes nothing.
use mathlib.Core.Path.{◌≡◌, ap}
use native.Mathlib.Omega.{arith}
use Rattle.sequences.specs.declared.access.Access.{Access}
use Rattle.sequences.specs.declared.access.Access.TheVariants.{Read, Write, Send, Receive, Done}
use Rattle.sequences.specs.Access.{Ending}
use Rattle.std.specs.Prelude.{Ok}
use Rattle.sequences.proofs.EndingLaws.{zero_is_ok}
use Rattle.machine.specs.Flush.{flush_access}
use Rattle.machine.specs.Transfer.{due_access}
use Rattle.agreement.specs.Agreement.{Seen, OkTwice}
use Rattle.c_api.specs.HostBus.{answer_number}

zero_is_done : (a : Access) → answer_number a ≡ 0 → a ≡ Done (Ok tt)
zero_is_done (Read r) h = absurd (omega arith)
zero_is_done (Write r v) h = absurd (omega arith)
zero_is_done (Send i) h = absurd (omega arith)
zero_is_done (Receive i) h = absurd (omega arith)
zero_is_done (Done e) h = ap (λ (x : Ending). Done x) (zero_is_ok e h)

-- OK TWICE exactly where both answers are 0
pub numbers_of_ok : (x : Seen) → OkTwice x → (answer_number (due_access x.transfer) ≡ 0) × (answer_number (flush_access x.flush) ≡ 0)
numbers_of_ok x h = (ap (λ (a : Access). answer_number a) h.0, ap (λ (a : Access). answer_number a) h.1)

pub ok_of_numbers : (x : Seen) → answer_number (due_access x.transfer) ≡ 0 → answer_number (flush_access x.flush) ≡ 0 → OkTwice x
ok_of_numbers x t f = (zero_is_done (due_access x.transfer) t, zero_is_done (flush_access x.flush) f)
