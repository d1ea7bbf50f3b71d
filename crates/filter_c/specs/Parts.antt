-- What rules and conditions consist of, those that were added and those of a profile alike.
use Rattle.std.specs.Prelude.{ℕ, ◌==◌, List, map, take, Option, Some, None, if◌then◌else◌}
use Rattle.machines.specs.declared.arch.Arch.{Arch}
use Rattle.profile.specs.declared.conditions.Op.{Op}
use Rattle.profile.specs.declared.conditions.Op.TheVariants.{Ne, Lt, Le, Eq, Ge, Gt, MaskedEq}
use Rattle.profile.specs.declared.conditions.Cond.{Cond}
use Rattle.profile.specs.declared.rules.Rule.{Rule}
use Rattle.filter_c.specs.declared.added.given.AddedCondition.{AddedCondition}
use Rattle.filter_c.specs.declared.added.given.AddedRule.{AddedRule}
use Rattle.filter_c.specs.Machine.{machine_with}

-- the operators by their numbers (seccomp_rule_add(3), enum scmp_compare)
abbrev pub operator_with : ℕ → Option Op
operator_with n =
    if n == 1 then Some Ne
    else if n == 2 then Some Lt
    else if n == 3 then Some Le
    else if n == 4 then Some Eq
    else if n == 5 then Some Ge
    else if n == 6 then Some Gt
    else if n == 7 then Some MaskedEq
    else None

-- the conditions of a rule that was added: the first of the six
abbrev pub conditions_of : AddedRule → List AddedCondition
conditions_of rule = take rule.count rule.conditions

pub record ConditionParts : Type 0 where
  pub argument : ℕ
  pub operator : Option Op
  pub value : ℕ
  pub datum : ℕ

pub record RuleParts : Type 0 where
  pub machine : Option Arch
  pub number : ℕ
  pub action : ℕ
  pub conditions : List ConditionParts

abbrev pub added_condition : AddedCondition → ConditionParts
added_condition c = record { argument = c.argument; operator = operator_with c.operator; value = c.value; datum = c.datum }

abbrev pub added_rule : AddedRule → RuleParts
added_rule rule = record {
  machine = machine_with rule.machine;
  number = rule.number;
  action = rule.action;
  conditions = map added_condition (conditions_of rule);
}

abbrev pub kept_condition : Cond → ConditionParts
kept_condition c = record { argument = c.index; operator = Some c.op; value = c.value; datum = c.datum }

abbrev pub kept_rule : Rule → RuleParts
kept_rule rule = record {
  machine = Some rule.arch;
  number = rule.nr;
  action = rule.word;
  conditions = map kept_condition rule.conds.items;
}
