use Rattle.profile.proofs.Same.{same_cond}
use Rattle.std.proofs.Common.{arith}
use Rattle.std.proofs.lemmas.Bool.{eqb-true}
use Rattle.differ.proofs.begun.is_same.Goals as goal

pub returns : goal.returns
returns c = λ t. same_cond c.args.one.now c.args.other.now (omega arith) (c.is_same_op.ensures c.if-not-is_same_op.false) (omega arith) (eqb-true _ _ t)
