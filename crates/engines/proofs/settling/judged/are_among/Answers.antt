use Rattle.std.proofs.Common.{◌≤◌, length, rules, subst}
use Rattle.std.specs.List.{All, Contains}
use Rattle.std.proofs.lemmas.List.{take_all}
use Rattle.std.proofs.lemmas.List.Elements.{All-more}
use Rattle.profile.specs.declared.rules.Rule.{Rule}
use Rattle.engines.proofs.settling.judged.are_among.Goals as goal

pub loop-rule-preserved : goal.loop-rule-preserved
loop-rule-preserved c =
    let P : Rule → Type 0 = λ rule. Contains c.args.rules.now rule in
    All-more P c.args.kept.now c.loop-rule.rule-index c.rule-item.result (search rules) c.loop-rule.invariant
    (subst P c.rule-item.is (c.is_among.ensures c.if-not-is_among.false))

pub returns : goal.returns
returns c = λ _.
    let ended : length c.args.kept.now ≤ c.loop-rule.rule-index = search rules in
    subst (All (λ (rule : Rule). Contains c.args.rules.now rule)) (take_all c.loop-rule.rule-index c.args.kept.now ended)
    c.loop-rule.invariant
