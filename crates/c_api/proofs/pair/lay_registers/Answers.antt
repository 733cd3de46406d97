-- `lay_registers` meets its contract: there are 30.
-- Assumes nothing.
use Prim.Native.Nat.{ℕ}
use mathlib.Core.List.{List}
use mathlib.Core.Path.{sym, ap, ◌∙◌}
use Rattle.words.specs.Buffer.{filled}
use Rattle.words.proofs.BufferLaws.{filled_all}
use Rattle.c_api.specs.HostBus.{laid_from}
use Rattle.c_api.proofs.pair.lay_registers.Goals as goal

pub returns : goal.returns
returns c =
    let r = c.args.registers.now in
    c.lay.ensures
    ∙ ap (λ (l : List ℕ). laid_from c.args.from l c.args.state.now)
    (sym (ap (λ (n : ℕ). filled 0 n r) (sym c.told-registers) ∙ filled_all 0 r))
