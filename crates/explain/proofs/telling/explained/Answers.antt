use Rattle.explain.specs.Explanation.{told_by}
use Rattle.wording.proofs.Texts.{from_nothing}
use Rattle.explain.proofs.telling.explained.Goals as goal

pub returns : goal.returns
returns c = (
  c.decide-word.result,
  c.decide-word.ensures,
  from_nothing _ _ (λ f r. told_by f c.decide-word.result r c.args.all.now.rules.items c.args.all.now.ends.items c.args.call.now) _ _ _ _
      c.in_ok-put_explanation.ensures c.new-text.ensures.bytes c.family.ensures c.reason_of-reason.ensures,
)
