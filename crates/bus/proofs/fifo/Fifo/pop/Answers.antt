use Rattle.std.proofs.Common.{◌∙◌, ap}
use Rattle.agreement.specs.End.{behind}
use Rattle.bus.proofs.FifoLaws.{popped, left}
use Rattle.bus.proofs.fifo.Fifo.pop.Goals as goal

pub invariant_of-self : goal.invariant_of-self
invariant_of-self c =
    let f = c.self.inside in
    let x = c.copy_within in
    popped f.count f.words x.new.self c.if-self-eq0.false c.self.told c.self.invariant.0 x.ensures.len x.ensures.by_index.0 c.self.invariant.1

pub returns-clause-rest : goal.returns-clause-rest
returns-clause-rest c =
    let f = c.self.inside in
    let x = c.copy_within in
    left f.count f.words x.new.self c.if-self-eq0.false c.self.told c.self.invariant.0 x.ensures.len x.ensures.by_index.0
    ∙ ap behind c.self.view_is
