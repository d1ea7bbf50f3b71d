-- A rule of a profile and one that was added, of the same parts, match the same call records.
use Rattle.std.proofs.Common.{◌≡◌, ℕ, List, refl, sym, subst, ap, ◌∙◌, Some}
use Rattle.std.specs.List.{All}
use Rattle.std.proofs.lemmas.Option.{same_Some}
use Rattle.std.proofs.lemmas.List.Elements.{All-map, All-weaker}
use Rattle.call_record.specs.Words.{word}
use Rattle.machines.specs.declared.arch.Arch.{Arch}
use Rattle.machines.specs.Arch.{token_of}
use Rattle.profile.specs.declared.conditions.Cond.{Cond}
use Rattle.profile.specs.declared.conditions.Op.{Op}
use Rattle.profile.specs.declared.rules.Rule.{Rule}
use Rattle.profile.specs.Condition.{Meets}
use Rattle.profile.specs.Operator.{Compares}
use Rattle.profile.specs.Rule.{Matches, argument_of}
use Rattle.filter_c.specs.declared.added.given.AddedRule.{AddedRule}
use Rattle.filter_c.specs.Parts.{ConditionParts, RuleParts, added_condition, added_rule, conditions_of, kept_condition, kept_rule}
use Rattle.filter_c.specs.Saying.{MatchesAdded, MeetsAdded}
use Rattle.filter_c.proofs.Lists.{all_unmap}

-- the record meets a condition of these parts
record MeetsParts (r : List ℕ) (p : ConditionParts) : Type 0 where
  operator : Op
  operator_is : p.operator ≡ Some operator
  compares : Compares operator p.value p.datum (argument_of r p.argument)

-- the record matches a rule of these parts
record MatchesParts (r : List ℕ) (p : RuleParts) : Type 0 where
  machine : Arch
  machine_is : p.machine ≡ Some machine
  token : word r 1 ≡ token_of machine
  number : word r 0 ≡ p.number
  conditions : All (MeetsParts r) p.conditions

module _ (r : List ℕ) where
  kept_back : (c : Cond) → MeetsParts r (kept_condition c) → Meets c (argument_of r c.index)
  kept_back c h =
      subst (λ (o : Op). Compares o c.value c.datum (argument_of r c.index)) (sym (same_Some c.op h.operator h.operator_is)) h.compares

  kept_to : (rule : Rule) → Matches rule r → MatchesParts r (kept_rule rule)
  kept_to rule m = record {
    machine = rule.arch;
    machine_is = refl;
    token = m.machine;
    number = m.number;
    conditions = All-map (MeetsParts r) kept_condition rule.conds.items
        (All-weaker (λ c. Meets c (argument_of r c.index)) (λ c. MeetsParts r (kept_condition c))
        (λ c h. record { operator = c.op; operator_is = refl; compares = h }) rule.conds.items m.conditions);
  }

  kept_from : (rule : Rule) → MatchesParts r (kept_rule rule) → Matches rule r
  kept_from rule m = record {
    machine = m.token ∙ ap token_of (sym (same_Some rule.arch m.machine m.machine_is));
    number = m.number;
    conditions = All-weaker (λ c. MeetsParts r (kept_condition c)) (λ c. Meets c (argument_of r c.index)) (λ c h. kept_back c h)
        rule.conds.items (all_unmap kept_condition (MeetsParts r) rule.conds.items m.conditions);
  }

  added_to : (rule : AddedRule) → MatchesAdded rule r → MatchesParts r (added_rule rule)
  added_to rule m = record {
    machine = m.machine;
    machine_is = m.machine_is;
    token = m.token;
    number = m.number;
    conditions = All-map (MeetsParts r) added_condition (conditions_of rule)
        (All-weaker (λ c. MeetsAdded c r) (λ c. MeetsParts r (added_condition c))
        (λ c h. record { operator = h.operator; operator_is = h.operator_is; compares = h.compares }) (conditions_of rule) m.conditions);
  }

  added_from : (rule : AddedRule) → MatchesParts r (added_rule rule) → MatchesAdded rule r
  added_from rule m = record {
    machine = m.machine;
    machine_is = m.machine_is;
    token = m.token;
    number = m.number;
    conditions = All-weaker (λ c. MeetsParts r (added_condition c)) (λ c. MeetsAdded c r)
        (λ c h. record { operator = h.operator; operator_is = h.operator_is; compares = h.compares }) (conditions_of rule)
        (all_unmap added_condition (MeetsParts r) (conditions_of rule) m.conditions);
  }

  pub is_added : (rule : Rule) (added : AddedRule) → kept_rule rule ≡ added_rule added → Matches rule r → MatchesAdded added r
  is_added rule added same m = added_from added (subst (MatchesParts r) same (kept_to rule m))

  pub is_kept : (rule : Rule) (added : AddedRule) → kept_rule rule ≡ added_rule added → MatchesAdded added r → Matches rule r
  is_kept rule added same m = kept_from rule (subst (MatchesParts r) (sym same) (added_to added m))

pub same_action : (rule : Rule) (added : AddedRule) → kept_rule rule ≡ added_rule added → rule.word ≡ added.action
same_action rule added same = ap (λ (p : RuleParts). p.action) same
