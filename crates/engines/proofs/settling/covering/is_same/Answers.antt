use Rattle.std.proofs.lemmas.Bool.{eqb-true}
use Rattle.profile.proofs.Same.{same_cond}
use Rattle.engines.proofs.settling.covering.is_same.Goals as goal

pub returns : goal.returns
returns c = λ t.
    let a = c.args.a.now in
    let b = c.args.b.now in
    same_cond a b c.if-a-b.false (c.is_same_op.ensures.0 c.if-not-is_same_op.false) c.if-a-b-2.false (eqb-true a.datum b.datum t)
