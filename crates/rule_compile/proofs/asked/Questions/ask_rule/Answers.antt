use Rattle.std.proofs.Common.{◌≡◌, ◌<◌, ◌≤◌, ◌∙◌, Bool, List, length, rules, subst, sym, take}
use Rattle.std.specs.List.{All}
use Rattle.std.proofs.lemmas.List.{take_all}
use Rattle.call_record.specs.Words.{IsRecord, argument}
use Rattle.machines.specs.Width.{compared}
use Rattle.profile.specs.declared.conditions.Cond.{Cond}
use Rattle.profile.specs.declared.rules.Rule.{Rule}
use Rattle.profile.specs.Condition.{Meets}
use Rattle.profile.specs.Rule.{is_narrow_rule}
use Rattle.rule_compile.proofs.AskedLaws.{asks_like, asks_then}
use Rattle.rule_compile.proofs.HeldLaws.{held_more}
use Rattle.rule_compile.proofs.asked.Questions.ask_rule.Goals as goal

pub loop-condition-preserved : goal.loop-condition-preserved
loop-condition-preserved c =
    let items : List Cond = c.deref-cond-items.result.now in
    let within : c.loop-condition.condition < length items = search rules in
    asks_like c.args.self.now c.ask_condition.new.self c.args.placed.rule.now.word IsRecord IsRecord _ _ (λ r rec. rec)
    (λ r rec. held_more (λ x. Meets x (compared c.is_narrow-narrow.result (argument r x.index))) items c.loop-condition.condition c.cond-item.result within c.cond-item.is)
    (asks_then c.args.placed.rule.now.word IsRecord c.args.self.now c.loop-condition.self c.ask_condition.new.self _ _
    c.loop-condition.invariant c.in_ok-ask_condition.ensures)

pub returns : goal.returns
returns c =
    let rule : Rule = c.args.placed.rule.now in
    let narrow : Bool = c.is_narrow-narrow.result in
    let is : narrow ≡ is_narrow_rule rule = c.is_narrow-narrow.ensures in
    let items : List Cond = c.deref-cond-items.result.now in
    let ended : length items ≤ c.loop-condition.condition = search rules in
    let whole : take c.loop-condition.condition items ≡ c.args.placed.rule.now.conds.items =
    take_all c.loop-condition.condition items ended ∙ search rules in
    asks_like c.args.self.now c.loop-condition.self c.args.placed.rule.now.word IsRecord IsRecord _ _ (λ r rec. rec)
    (λ r rec. (
      λ h. subst (λ n. All (λ x. Meets x (compared n (argument r x.index))) rule.conds.items) is
          (subst (All (λ x. Meets x (compared narrow (argument r x.index)))) whole h),
      λ h. subst (All (λ x. Meets x (compared narrow (argument r x.index)))) (sym whole)
          (subst (λ n. All (λ x. Meets x (compared n (argument r x.index))) rule.conds.items) (sym is) h),
    ))
    c.loop-condition.invariant
