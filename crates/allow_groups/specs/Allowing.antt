-- The profile that allows calls alone, and ends the process elsewhere.
use Rattle.std.specs.Prelude.{◌≡◌, List, [], map}
use Rattle.std.specs.List.{All}
use Rattle.call_record.specs.Verdict.{allow, kill_process}
use Rattle.profile.specs.Build.{IsBuiltOf}
use Rattle.profile.specs.Policy.{Policy}
use Rattle.profile.specs.declared.rules.Rule.{Rule}
use Rattle.allow_groups.specs.declared.calls.MachineCall.{MachineCall}

-- the call that a rule is for
abbrev pub call_of : Rule → MachineCall
call_of rule = record { arch = rule.arch; nr = rule.nr }

-- a rule without conditions that allows its call
pub record AllowsAll (rule : Rule) : Type 0 where
  pub no_conditions : rule.conds.items ≡ []
  pub word : rule.word ≡ allow

-- a rule for each of the calls
pub record AreRulesOf (calls : List MachineCall) (rules : List Rule) : Type 0 where
  pub of_all : map call_of rules ≡ calls
  pub allow_all : All AllowsAll rules

-- the profile of these rules for the machines of another one
pub record IsAllowing (p : Policy) (calls : List MachineCall) (q : Policy) : Type 0 where
  pub rules : List Rule
  pub are : AreRulesOf calls rules
  pub built : IsBuiltOf p.native p.machines kill_process rules q
  pub machines : q.machines ≡ p.machines
