use Rattle.std.proofs.Common.{◌≡◌, ◌+◌, [], ◌∷◌, ◌++◌, List, take, sym, ◌∙◌, ap, subst, arith}
use Rattle.std.proofs.lemmas.List.{take_more}
use Rattle.profile.specs.declared.rules.Rule.{Rule}
use Rattle.widths.specs.Narrowed.{AreNarrowed}
use Rattle.widths.proofs.RuleLaws.{narrowed_none}
use Rattle.widths.proofs.told.narrowed_rules.Goals as goal

pub loop-rule-init : goal.loop-rule-init
loop-rule-init c = subst (AreNarrowed []) (sym c.new-narrowed.ensures.items) narrowed_none

pub loop-rule-preserved : goal.loop-rule-preserved
loop-rule-preserved c =
    let before = take c.loop-rule.rule-index c.args.rules.now in
    let more : take (c.loop-rule.rule-index + 1) c.args.rules.now ≡ before ++ c.rule-item.result ∷ [] =
    take_more c.args.rules.now c.loop-rule.rule-index c.rule-item.result (omega (arith, c.loop-rule-test.true))
    ∙ ap (λ (x : Rule). before ++ x ∷ []) (sym c.rule-item.is) in
    subst (λ (l : List Rule). AreNarrowed l c.add.new.narrowed.items) (sym more)
    (c.in_ok-done.ensures c.if-not-done.false before c.loop-rule.invariant)
