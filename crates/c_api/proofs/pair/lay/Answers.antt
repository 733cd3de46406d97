-- `lay` meets its contract: a copy of what has room, or nothing past the end.
-- Assumes nothing.
use native.Mathlib.Omega.{arith}
use Rattle.c_api.proofs.PairLaws.{copied, past}
use Rattle.c_api.proofs.pair.lay.Goals as goal

pub returns-then-state-from : goal.returns-then-state-from
returns-then-state-from c = past c.args.from c.args.words.now c.args.state.now c.if-state-from.true

pub returns : goal.returns
returns c =
    let a = c.args in
    rw c.copy_from_slice.ensures.after
    (copied a.from c.min-n.result _ a.words.now a.state.now (omega arith) c.min-n.ensures (omega arith))
