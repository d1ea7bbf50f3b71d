use Rattle.std.proofs.Common.{arith}
use Rattle.processes.proofs.FilterLemmas.{few}
use Rattle.processes.proofs.filters.Filters.len.Goals as goal

pub overflow_cast-result : goal.overflow_cast-result
overflow_cast-result c = omega (arith, few c.self.inside.list.items, c.self.invariant)
