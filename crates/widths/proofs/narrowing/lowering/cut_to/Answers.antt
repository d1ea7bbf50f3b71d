use Rattle.std.proofs.Common.{ℕ, ◌%◌, sym, subst}
use Rattle.std.specs.Prelude.{IsSome, Option}
use Rattle.profile.specs.declared.conditions.Cond.{Cond}
use Rattle.profile.specs.Condition.{IsCondition}
use Rattle.widths.proofs.LowerLaws.{no_stray_cut, not_both}
use Rattle.widths.proofs.narrowing.lowering.cut_to.Goals as goal

pub returns-clause-none : goal.returns-clause-none
returns-clause-none c =
    λ none.
    let cond = c.args.cond.now in
    let is : IsCondition cond.index cond.op (cond.value % c.power_of_two-limit.result) (cond.datum % c.power_of_two-limit.result) =
    subst (λ (limit : ℕ). IsCondition cond.index cond.op (cond.value % limit) (cond.datum % limit)) (sym c.power_of_two-limit.ensures)
    (cond.in_range, no_stray_cut cond.op cond.value cond.datum c.args.bits cond.no_stray) in
    absurd (not_both (subst (λ (o : Option Cond). IsSome o) none (c.new.ensures.made.1 is)))
