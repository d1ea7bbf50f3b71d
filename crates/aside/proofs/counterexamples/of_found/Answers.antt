use Rattle.std.proofs.Common.{refl}
use Rattle.aside.proofs.counterexamples.of_found.Goals as goal

pub returns : goal.returns
returns c = c.counterexamples_behind.ensures.found c.args.found.now refl
