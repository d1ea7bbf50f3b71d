use Rattle.std.proofs.Common.{◌≡◌, sym, subst}
use Rattle.std.specs.List.{All}
use Rattle.rule_compile.specs.Outline.{IsCallOf}
use Rattle.rule_compile.specs.Plan.{IsPlanOf}
use Rattle.rule_compile.specs.inner.Stands.{AreBlocks, BlocksStand}
use Rattle.rule_compile.proofs.AcceptLaws.{fine_has_no_cause}
use Rattle.rule_compile.proofs.NotedLaws.{calls_are}
use Rattle.rule_compile.proofs.PlanLaws.{outline_is}
use Rattle.rule_compile.proofs.filter.plan.Goals as goal

pub returns-clause-plans : goal.returns-clause-plans
returns-clause-plans c =
    subst (IsPlanOf c.args.profile.now) (sym c.into_insns.ensures.code)
    (record {
      some = c.in_ok-filter.ensures.some;
      no_cause = fine_has_no_cause c.filter.new.code c.into_insns.ensures.fine;
      gives = c.in_ok-filter.ensures.gives;
      steady = c.in_ok-filter.ensures.steady;
      shape = c.in_ok-filter.ensures.shape;
    })

pub returns-clause-outline : goal.returns-clause-outline
returns-clause-outline c =
    let p = c.args.profile.now in
    let b = c.filter.new.blocks in
    let o = c.into_outline.result in
    let blocks : o.blocks.items ≡ b.blocks.items = c.into_outline.ensures.blocks in
    outline_is p o (subst AreBlocks (sym blocks) c.in_ok-filter.ensures.sound.blocks_are)
    (subst BlocksStand (sym blocks) c.in_ok-filter.ensures.sound.stand)
    (subst (λ bs. All (IsCallOf p bs) o.calls.items) (sym blocks)
    (subst (All (IsCallOf p b.blocks.items)) (sym c.into_outline.ensures.calls)
    (calls_are p b.blocks.items b.calls.items c.in_ok-filter.ensures.calls)))
