use Rattle.std.proofs.Common.{◌≡◌, ◌++◌, [], ◌∷◌, List, take, sym, ◌∙◌, ap, append_assoc, arith}
use Rattle.std.proofs.lemmas.List.{take_more}
use Rattle.profile.specs.declared.rules.Rule.{Rule}
use Rattle.widths.proofs.narrowing.rules.append.Goals as goal

pub loop-rule-preserved : goal.loop-rule-preserved
loop-rule-preserved c =
    let before = take c.loop-rule.rule-index c.args.more.now in
    c.in_ok-push.ensures.items
    ∙ ap (λ (l : List Rule). l ++ c.in_ok-clone.field-0 ∷ []) c.loop-rule.invariant
    ∙ append_assoc c.args.rules.now.items before (c.in_ok-clone.field-0 ∷ [])
    ∙ ap (λ (x : Rule). c.args.rules.now.items ++ (before ++ x ∷ [])) (c.in_ok-clone.ensures.cases ∙ c.rule-item.is)
    ∙ ap (λ (l : List Rule). c.args.rules.now.items ++ l)
    (sym (take_more c.args.more.now c.loop-rule.rule-index c.rule-item.result (omega (arith, c.loop-rule-test.true))))
