use Rattle.std.proofs.lemmas.Bool.{eqb-true}
use Rattle.engines.proofs.CoveringLaws.{fewer_bits}
use Rattle.engines.proofs.settling.covering.asks_fewer_bits.Goals as goal

pub returns : goal.returns
returns c = λ t.
    let a = c.args.a.now in
    let b = c.args.b.now in
    fewer_bits a b (c.is_same_op.ensures.0 c.if-not-is_same_op.false) (c.is_same_op-2.ensures.0 c.if-not-is_same_op-2.false)
    c.if-b-a.false (eqb-true _ _ t)
