use Rattle.std.proofs.Common.{◌≡◌, ap, arith}
use Rattle.std.specs.Prelude.{slice_index_or}
use Rattle.rule_compile.specs.declared.asked.Open.{Open}
use Rattle.rule_compile.specs.inner.Left.{weight_of}
use Rattle.rule_compile.proofs.BlocksLaws.{weight_more}
use Rattle.rule_compile.proofs.measures.weight_of.Goals as goal

pub loop-open-preserved : goal.loop-open-preserved
loop-open-preserved c =
    let k = c.loop-open.open-index in
    let o = c.open-item.result in
    let more = weight_more c.args.rules.now k o c.loop-open-test.true in
    let e : weight_of o.question.low ≡ weight_of (slice_index_or c.args.rules.now k o).question.low =
    ap (λ (x : Open). weight_of x.question.low) c.open-item.is in
    record {
      sum = omega (arith, more, c.weight_of_one-sum.ensures.weight, e, c.loop-open.invariant.sum);
      most = omega (arith, c.weight_of_one-sum.ensures.most, c.loop-open.invariant.most);
    }
