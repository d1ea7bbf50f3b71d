use Rattle.std.proofs.Common.{subst}
use Rattle.widths.specs.Cutting.{IsCutPlan}
use Rattle.widths.proofs.SuitLaws.{cut_suits}
use Rattle.widths.proofs.narrowing.suiting.own_plan.Goals as goal

pub returns-clause-suits : goal.returns-clause-suits
returns-clause-suits c =
    cut_suits c.args.rule.now c.cut_plan.result
    (subst (λ t. IsCutPlan t c.args.rule.now.nr c.cut_plan.result) c.token.ensures c.cut_plan.ensures.cuts)
