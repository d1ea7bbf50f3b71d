use Rattle.std.proofs.Common.{List, subst}
use Rattle.std.specs.List.{All}
use Rattle.std.proofs.lemmas.List.{take_all}
use Rattle.std.proofs.lemmas.List.Elements.{All-more}
use Rattle.profile.specs.declared.rules.Rule.{Rule}
use Rattle.strace_logs.specs.Learned.{IsNamed}
use Rattle.strace_logs.proofs.judging.are_named.Goals as goal

pub loop-rule-preserved : goal.loop-rule-preserved
loop-rule-preserved c = λ native texts all.
    All-more (IsNamed native texts c.args.runtime) c.args.rules.now c.loop-rule.rule-index c.rule-item.result c.loop-rule-test.true
    (c.loop-rule.invariant native texts all)
    (subst (IsNamed native texts c.args.runtime) c.rule-item.is (c.is_named.ensures native texts all c.if-not-is_named.false))

pub returns : goal.returns
returns c = λ native texts all it_is.
    subst (λ (rules : List Rule). All (IsNamed native texts c.args.runtime) rules)
    (take_all c.loop-rule.rule-index c.args.rules.now c.loop-rule-test.false) (c.loop-rule.invariant native texts all)
