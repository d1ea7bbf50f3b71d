-- Why there is no profile of the rules that were added.
use Rattle.std.specs.Prelude.{◌≡◌, ◌≢◌, ◌<◌, ℕ, false, List, map, length, Some, None, bit_and, slice_get}
use Rattle.std.specs.List.{All, Contains}
use Rattle.call_record.specs.Words.{IsRecord}
use Rattle.profile.specs.declared.conditions.Op.{Op}
use Rattle.profile.specs.Operator.{are_distinct, mask_of}
use Rattle.profile.specs.Policy.{most_rules}
use Rattle.filter_c.specs.declared.added.given.AddedCondition.{AddedCondition}
use Rattle.filter_c.specs.declared.added.given.AddedRule.{AddedRule}
use Rattle.filter_c.specs.declared.added.fault.AddedError.{AddedError}
use Rattle.filter_c.specs.declared.added.fault.AddedError.TheVariants as error
use Rattle.filter_c.specs.Machine.{machine_with}
use Rattle.filter_c.specs.Parts.{conditions_of, operator_with}
use Rattle.filter_c.specs.Saying.{MatchesAdded}

-- what is wrong with a condition: its argument, its operator, or a bit of the datum outside of the mask
pub data IsNoCondition (c : AddedCondition) : Type 0 where
  argument : 5 < c.argument → IsNoCondition c
  operator : operator_with c.operator ≡ None → IsNoCondition c
  stray : (o : Op) → operator_with c.operator ≡ Some o → bit_and c.datum (mask_of o c.value) ≢ c.datum → IsNoCondition c

-- what is wrong with a rule: its machine, the count of its conditions, one of them, or two on one argument
pub data IsNoRule (rule : AddedRule) : Type 0 where
  machine : machine_with rule.machine ≡ None → IsNoRule rule
  many : 6 < rule.count → IsNoRule rule
  condition : (c : AddedCondition) → Contains (conditions_of rule) c → IsNoCondition c → IsNoRule rule
  twice : are_distinct (map (λ c. c.argument) (conditions_of rule)) ≡ false → IsNoRule rule

-- none of the machines is the one with this number
abbrev pub IsAbsent : List ℕ → ℕ → Type 0
IsAbsent machines n = All (λ m. machine_with m ≢ machine_with n) machines

-- the rules at these places, the lesser first, have unlike actions, and one call record matches both
pub record AddedClash (rules : List AddedRule) (i j : ℕ) : Type 0 where
  pub order : i < j
  pub first : AddedRule
  pub first_at : slice_get rules i ≡ Some first
  pub second : AddedRule
  pub second_at : slice_get rules j ≡ Some second
  pub unlike : first.action ≢ second.action
  pub call : List ℕ
  pub is_record : IsRecord call
  pub matches_first : MatchesAdded first call
  pub matches_second : MatchesAdded second call

-- the cause of each error stands in what was added
abbrev pub IsCause : ℕ → List ℕ → List AddedRule → AddedError → Type 0
IsCause native machines rules error.NoNative = machine_with native ≡ None
IsCause native machines rules (error.NoMachine i) = (n : ℕ) × (slice_get machines i ≡ Some n) × (machine_with n ≡ None)
IsCause native machines rules (error.NoRule i) = (rule : AddedRule) × (slice_get rules i ≡ Some rule) × IsNoRule rule
IsCause native machines rules error.NativeMissing = IsAbsent machines native
IsCause native machines rules (error.ForeignRule i) =
    (rule : AddedRule) × (slice_get rules i ≡ Some rule) × IsAbsent machines rule.machine
IsCause native machines rules error.TooMany = most_rules < length rules
IsCause native machines rules (error.Overlap i j) = AddedClash rules i j
IsCause native machines rules error.OutOfMemory = Unit {0}
