use Rattle.std.proofs.Common.{◌≡◌, ◌+◌, [], ◌∷◌, ◌++◌, List, take, sym, ◌∙◌, ap, subst, arith}
use Rattle.std.specs.Prelude.{IfSome, Option}
use Rattle.std.proofs.lemmas.List.{take_more}
use Rattle.std.proofs.lemmas.List.Elements.{AllZip-push}
use Rattle.profile.specs.declared.rules.Rule.{Rule}
use Rattle.widths.specs.Lowered.{AreLowered, IsLowered}
use Rattle.widths.proofs.told.lowered_rules.Goals as goal

pub loop-rule-preserved : goal.loop-rule-preserved
loop-rule-preserved c =
    let rules = c.args.rules.now in
    let i = c.loop-rule.rule-index in
    let one = c.rule-item.result in
    let lower = c.in-Some.lower in
    let is : IsLowered lower one =
    subst (λ (found : Option Rule). IfSome found (λ x. IsLowered x one)) c.in-Some.is c.in_ok-lower.ensures.lowered in
    let more : take (i + 1) rules ≡ take i rules ++ one ∷ [] =
    take_more rules i one (omega (arith, c.loop-rule-test.true)) ∙ ap (λ (x : Rule). take i rules ++ x ∷ []) (sym c.rule-item.is) in
    subst (λ (ds : List Rule). AreLowered ds (take (i + 1) rules)) (sym c.in_ok-push.ensures.items)
    (subst (AreLowered (c.loop-rule.lowers.items ++ lower ∷ [])) (sym more)
    (AllZip-push IsLowered c.loop-rule.lowers.items (take i rules) lower one c.loop-rule.invariant is))
