use Rattle.std.proofs.Common.{arith}
use Rattle.agreement.proofs.ShownLaws.{capacity_small}
use Rattle.bus.proofs.port.Exponent.capacity.Goals as goal

pub returns-clause-few : goal.returns-clause-few
returns-clause-few c = grind (arith, capacity_small c.args.self.value c.args.self.small)
