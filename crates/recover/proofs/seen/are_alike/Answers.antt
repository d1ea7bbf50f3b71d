use Rattle.std.proofs.Common.{arith}
use Rattle.std.proofs.lemmas.Bool.{eqb-true}
use Rattle.machines.specs.Width.{compared}
use Rattle.recover.proofs.AlikeLaws.{maps_same}
use Rattle.recover.proofs.seen.are_alike.Goals as goal

pub returns-then-one-other : goal.returns-then-one-other
returns-then-one-other c = λ same. record {
  machine = c.if-one-other.true;
  number = eqb-true c.args.one.now.nr c.args.other.now.nr same;
  arguments =
      maps_same (compared c.args.narrow) c.args.one.now.args c.args.other.now.args (omega arith)
      (λ j lt. c.loop-index.invariant j (omega arith));
}
