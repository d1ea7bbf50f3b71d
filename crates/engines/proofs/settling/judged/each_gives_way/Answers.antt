use Rattle.std.proofs.Common.{arith}
use Rattle.std.proofs.lemmas.Option.{slice_get_within}
use Rattle.engines.proofs.SettledLaws.{each_further}
use Rattle.engines.proofs.settling.judged.each_gives_way.Goals as goal

pub loop-i-preserved : goal.loop-i-preserved
loop-i-preserved c = each_further c.args.choice c.args.rules.now c.args.kept.now c.loop-i.i c.index-rules-i.result c.loop-i-test.true
    c.index-rules-i.is c.loop-i.invariant (c.gives_way.ensures c.if-not-gives_way.false)

pub returns : goal.returns
returns c = λ _ i rule at.
    let within = slice_get_within c.args.rules.now i rule at in
    c.loop-i.invariant i rule (omega (arith, within, c.loop-i-test.false)) at
