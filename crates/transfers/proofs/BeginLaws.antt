-- What `begin` answers in each of its cases is what the definition begins, whatever the sides are.
-- Assumes nothing.
use Prim.Native.Nat.{ℕ, ◌*◌}
use mathlib.Core.Path.{◌≡◌, sym, ap, ap₂, ◌∙◌}
use borrow.Author.Tests.{ne_eqb}
use Rattle.words.specs.declared.transaction.LpspiError.{LpspiError}
use Rattle.words.specs.declared.transaction.LpspiError.TheVariants.{FrameSize}
use Rattle.words.specs.declared.transaction.Transaction.{Transaction}
use Rattle.std.specs.Prelude.{Result, Ok as Made, Err as Refused}
use Rattle.words.specs.declared.transaction.LpspiError.{LpspiError}
use Rattle.words.specs.declared.transaction.Transaction.{Transaction}
use Rattle.words.specs.declared.width.Width.{Width}
use Rattle.words.specs.Buffer.{word_count}
use Rattle.words.specs.Command.{command_answer, framed}
use Rattle.words.specs.Width.{width_bits}
use Rattle.words.proofs.CommandLaws.{accepted_word, refused_size}
use Rattle.std.specs.Prelude.{Ok, Err}
use Rattle.sequences.specs.declared.access.RunError.TheVariants.{Driver}
use Rattle.sequences.specs.declared.driver.Lpspi.{Lpspi}
use Rattle.machine.specs.declared.transfer.Transfer.{Transfer}
use Rattle.sequences.specs.Driver.{driver_command}
use Rattle.machine.specs.Transfer.{start_transfer, ended_transfer}
use Rattle.transfers.specs.declared.begin.Ways.{Ways}
use Rattle.transfers.specs.Transfers.{begun}
use Rattle.transfers.specs.Begin.{sends_of, receives_of, masked_by, length_plan}

module _ (x : Width) (d : Lpspi) (ways : Ways) (total : ℕ) where
  abbrev bits : ℕ
  bits = width_bits x

  abbrev Begins : Transfer → Type 0
  Begins r = r ≡ begun bits d (length_plan bits ways total)

  pub begins_empty : {r : Transfer} → total ≡ 0 → r ≡ ended_transfer d (Ok tt) → Begins r
  begins_empty z er = er ∙ rw z

  module _ (some : total ≡ 0 → ⊥) {t : Result Transaction LpspiError} (ec : command_answer t ≡ framed (bits * total)) where
    pub begins_refused : (u : LpspiError) → t ≡ Refused u → {r : Transfer} → r ≡ ended_transfer d (Err (Driver FrameSize)) → Begins r
    begins_refused u eu er = er ∙ rw (ne_eqb total 0 some, refused_size (bits * total) u (ap command_answer (sym eu) ∙ ec))

    pub begins_made : (u : Transaction) → t ≡ Made u → {n plain command send receive : ℕ} → n ≡ word_count bits total
        → plain ≡ driver_command d u.0
        → command ≡ masked_by ways plain → send ≡ sends_of ways n → receive ≡ receives_of ways n
        → {r : Transfer} → r ≡ start_transfer d command send receive → Begins r
    begins_made u eu {n} {plain} {command} {send} {receive} en ep em es er e =
        let a = accepted_word (bits * total) u (ap command_answer (sym eu) ∙ ec) in
        let n' = word_count bits total in
        e
        ∙ ap₂ (start_transfer d command) (es ∙ ap (sends_of ways) en) (er ∙ ap (receives_of ways) en)
        ∙ rw (ne_eqb total 0 some, a.0)
        (ap (λ (w : ℕ). start_transfer d w (sends_of ways n') (receives_of ways n'))
        (em ∙ ap (masked_by ways) (ep ∙ ap (driver_command d) a.1)))
