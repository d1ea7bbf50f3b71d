use Rattle.std.proofs.Common.{arith}
use Rattle.show.proofs.Spanning.{at_first}
use Rattle.show.proofs.spans.from_first.Goals as goal

pub returns : goal.returns
returns c = λ p arch nr all size. at_first p arch nr c.args.table.now _ all size (grind (arith, c.is_empty.ensures, c.if-is_empty.ensures))
