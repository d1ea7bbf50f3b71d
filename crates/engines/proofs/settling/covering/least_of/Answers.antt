use Rattle.engines.proofs.CoveringLaws.{bits_least}
use Rattle.engines.proofs.settling.covering.least_of.Goals as goal

pub returns-in-MaskedEq : goal.returns-in-MaskedEq
returns-in-MaskedEq c = λ u. bits_least c.args.cond.now u c.in-MaskedEq.is
