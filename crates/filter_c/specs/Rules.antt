-- What a filter for rules is, and why there is none.
use Rattle.std.specs.Prelude.{ℕ, ◌≡◌, ◌↔◌, List, map, Some, None}
use Rattle.bpf_insn.specs.Bytes.{insns_of, view_fault}
use Rattle.bpf_insn.specs.Machine.{verdict_of}
use Rattle.call_record.specs.Words.{IsRecord}
use Rattle.machines.specs.declared.arch.Arch.{Arch}
use Rattle.cert_check.specs.Right.{IsRight}
use Rattle.kernel_check.specs.Accepted.{IsAccepted}
use Rattle.profile.specs.declared.rules.Rule.{Rule}
use Rattle.profile.specs.Build.{IsBuiltOf}
use Rattle.profile.specs.Policy.{Policy}
use Rattle.rule_compile.specs.Shape.{IsPlain}
use Rattle.filter_c.specs.declared.added.given.AddedRule.{AddedRule}
use Rattle.filter_c.specs.Machine.{machine_with}
use Rattle.filter_c.specs.Parts.{added_rule, kept_rule}
use Rattle.filter_c.specs.Saying.{AddedSay}

-- the bytes are a program that the kernel accepts, and that is right for the profile
pub record IsRightProgram (policy : Policy) (filter : List ℕ) : Type 0 where
  pub program : view_fault filter ≡ None
  pub accepted : IsAccepted (insns_of filter)
  pub right : IsRight policy (insns_of filter)

-- The bytes are a program that the kernel accepts. On each call record it answers what the rules that were added say, and nothing else.
pub record AnswersWhatWasAdded (machines : List ℕ) (default_action : ℕ) (rules : List AddedRule) (filter : List ℕ) : Type 0 where
  pub program : view_fault filter ≡ None
  pub accepted : IsAccepted (insns_of filter)
  pub answers : (r : List ℕ) → IsRecord r → (v : ℕ)
      → (verdict_of (insns_of filter) r ≡ Some v) ↔ AddedSay machines default_action rules r v

-- the profile that is built of these very machines and rules
pub record IsBuiltOfAdded (native : ℕ) (machines : List ℕ) (default_action : ℕ) (rules : List AddedRule) (policy : Policy) : Type 0 where
  pub machine : Arch
  pub machine_is : machine_with native ≡ Some machine
  pub listed : List Arch
  pub listed_are : map (λ (a : Arch). Some a) listed ≡ map machine_with machines
  pub kept : List Rule
  pub kept_are : map kept_rule kept ≡ map added_rule rules
  pub built : IsBuiltOf machine listed default_action kept policy

-- each machine is one, and each rule is one of these machines: a profile is built of them
abbrev pub AreBuilt : ℕ → List ℕ → ℕ → List AddedRule → Type 0
AreBuilt native machines default_action rules = (policy : Policy) × IsBuiltOfAdded native machines default_action rules policy

-- this profile is not plain: of a plain one there is a filter
abbrev pub AreNotPlain : ℕ → List ℕ → ℕ → List AddedRule → Type 0
AreNotPlain native machines default_action rules =
    (policy : Policy) × IsBuiltOfAdded native machines default_action rules policy × (IsPlain policy → ⊥)
