use Rattle.rule_compile.proofs.PlanLaws.{made_is_right}
use Rattle.rule_compile.proofs.filter.make.Goals as goal

pub returns-clause-right : goal.returns-clause-right
returns-clause-right c =
    made_is_right c.args.profile.now c.in_ok-planned.planned.insns.items c.in_ok-planned.ensures.plans c.into_filter.result
    c.into_filter.ensures.too_long c.into_filter.ensures.read
