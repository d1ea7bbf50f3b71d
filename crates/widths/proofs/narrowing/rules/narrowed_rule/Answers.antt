use Rattle.widths.specs.Narrowed.{AreNarrowed}
use Rattle.std.proofs.Common.{[], ◌∷◌, ◌≤◌, length}
use Rattle.widths.specs.Counts.{most_lists}
use Rattle.widths.specs.Cutting.{AreCut}
use Rattle.widths.proofs.LowBitLaws.{if_ok}
use Rattle.widths.proofs.RuleLaws as laws
use Rattle.widths.proofs.narrowing.rules.narrowed_rule.Goals as goal

pub returns-clause-ok : goal.returns-clause-ok
returns-clause-ok c =
    if_ok (λ l. AreCut c.args.plan.now c.args.rule.now l.items) (λ l. AreNarrowed (c.args.rule.now ∷ []) l.items)
    (λ l cuts. laws.narrowed_rule c.args.plan.now c.args.rule.now l.items c.requires cuts) c.cut.result c.cut.ensures.ok

pub returns-clause-few : goal.returns-clause-few
returns-clause-few c =
    if_ok (λ l. AreCut c.args.plan.now c.args.rule.now l.items) (λ l. length l.items ≤ most_lists c.args.plan.now c.args.rule.now.conds.items)
    (λ l cuts. laws.cut_few c.args.plan.now c.args.rule.now l.items cuts) c.cut.result c.cut.ensures.ok
