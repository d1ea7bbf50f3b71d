use Rattle.std.proofs.Common.{◌≡◌, map}
use Rattle.std.specs.List.{All}
use Rattle.widths.specs.Cutting.{IsLike, AreCut}
use Rattle.widths.specs.Counts.{most_lists}
use Rattle.widths.proofs.StepLaws.{all_shown, cut_rules, if_both}
use Rattle.widths.proofs.narrowing.cutting.cut.Goals as goal

pub with_conds-requires : goal.with_conds-requires
with_conds-requires c =
    all_shown (λ v. v.items) c.deref.result.now c.in_ok-lists.lists.items c.as_slice.result.now c.args.rule.now.conds.items c.deref.ensures.value
    c.as_slice.ensures.value c.in_ok-lists.ensures.ok.indexes

pub returns-clause-ok : goal.returns-clause-ok
returns-clause-ok c =
    if_both (λ l. All (IsLike c.args.rule.now) l.items)
    (λ l. map (λ q. q.conds.items) l.items ≡ map (λ v. v.items) c.deref.result.now)
    (λ l. AreCut c.args.plan.now c.args.rule.now l.items)
    (λ l like is. cut_rules (λ v. v.items) c.deref.result.now c.in_ok-lists.lists.items c.args.plan.now c.args.rule.now c.as_slice.result.now l.items
    c.deref.ensures.value c.as_slice.ensures.value c.in_ok-lists.ensures.ok like is)
    c.with_conds.result c.with_conds.ensures.like c.with_conds.ensures.conds

pub returns-clause-err : goal.returns-clause-err
returns-clause-err c = c.with_conds.ensures.err (most_lists c.args.plan.now c.args.rule.now.conds.items)
