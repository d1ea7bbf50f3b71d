use Rattle.std.proofs.Common.{arith}
use Rattle.maker.proofs.certifying.are_bytes.Goals as goal

pub returns-clause-small : goal.returns-clause-small
returns-clause-small c = λ i. omega (arith, c.type_inv.bytes i)
