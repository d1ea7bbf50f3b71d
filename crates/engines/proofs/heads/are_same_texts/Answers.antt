use Rattle.serde_json.specs.View.{view}
use Rattle.profile_json.specs.Lookup.{text}
use Rattle.engines.proofs.HeadLaws.{same_further}
use Rattle.engines.proofs.heads.are_same_texts.Goals as goal

pub loop-i-preserved : goal.loop-i-preserved
loop-i-preserved c =
    same_further (λ v. text (view v)) c.args.a.now c.args.b.now c.loop-i.i c.index-a-i.result c.index-b-i.result c.loop-i-test.true
    c.if-a-b.false c.index-a-i.is c.index-b-i.is (c.are_one_text.ensures c.if-not-are_one_text.false) c.loop-i.invariant
