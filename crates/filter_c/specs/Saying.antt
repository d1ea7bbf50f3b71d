-- What rules that were added say of a call record (seccomp_rule_add(3), seccomp(2)). No order of the rules is known here.
use Rattle.std.specs.Prelude.{◌≡◌, ℕ, List, Some}
use Rattle.std.specs.List.{All, Any, Contains}
use Rattle.call_record.specs.Words.{IsRecord, word}
use Rattle.machines.specs.declared.arch.Arch.{Arch}
use Rattle.machines.specs.Arch.{token_of}
use Rattle.machines.specs.Numbers.{HasCall}
use Rattle.profile.specs.declared.conditions.Op.{Op}
use Rattle.profile.specs.Operator.{Compares}
use Rattle.profile.specs.Policy.{Policy, Says}
use Rattle.profile.specs.Rule.{argument_of}
use Rattle.filter_c.specs.declared.added.given.AddedCondition.{AddedCondition}
use Rattle.filter_c.specs.declared.added.given.AddedRule.{AddedRule}
use Rattle.filter_c.specs.Machine.{machine_with}
use Rattle.filter_c.specs.Parts.{conditions_of, operator_with}

-- the record meets the condition
pub record MeetsAdded (c : AddedCondition) (r : List ℕ) : Type 0 where
  pub operator : Op
  pub operator_is : operator_with c.operator ≡ Some operator
  pub compares : Compares operator c.value c.datum (argument_of r c.argument)

-- the record is a call of the rule's machine with the rule's number, and meets all conditions
pub record MatchesAdded (rule : AddedRule) (r : List ℕ) : Type 0 where
  pub machine : Arch
  pub machine_is : machine_with rule.machine ≡ Some machine
  pub token : word r 1 ≡ token_of machine
  pub number : word r 0 ≡ rule.number
  pub conditions : All (λ c. MeetsAdded c r) (conditions_of rule)

-- the record is a call of the machine with this number: it has its token, and its number is one of the machine's own
pub record IsOfMachine (r : List ℕ) (n : ℕ) : Type 0 where
  pub machine : Arch
  pub machine_is : machine_with n ≡ Some machine
  pub call : HasCall (word r 1) (word r 0) machine

-- the record is a call of one of these machines
abbrev pub IsOfMachines : List ℕ → List ℕ → Type 0
IsOfMachines machines r = Any (IsOfMachine r) machines

-- The verdict that these rules for these machines say of a record: KILL_THREAD of a call of no such machine, the action of
-- each rule that matches it, and else the default action.
pub record AddedSay (machines : List ℕ) (default_action : ℕ) (rules : List AddedRule) (r : List ℕ) (v : ℕ) : Type 0 where
  pub foreign : ¬ IsOfMachines machines r → v ≡ 0
  pub matched : IsOfMachines machines r → (rule : AddedRule) → Contains rules rule → MatchesAdded rule r → v ≡ rule.action
  pub unmatched : IsOfMachines machines r → All (λ rule. ¬ MatchesAdded rule r) rules → v ≡ default_action

-- the profile says of each record what these rules say
abbrev pub SaysWhatWasAdded : List ℕ → ℕ → List AddedRule → Policy → Type 0
SaysWhatWasAdded machines default_action rules policy =
    (r : List ℕ) → IsRecord r → (v : ℕ) → (Says policy r v → AddedSay machines default_action rules r v)
    × (AddedSay machines default_action rules r v → Says policy r v)
