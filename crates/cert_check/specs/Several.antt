-- Returns to which several calls come: of each number that is possible, a rule without conditions says the verdict.
use Rattle.std.specs.Prelude.{◌≡◌, ◌≤◌, ℕ, ◌⊎◌, IsTrue, List, [], Any, Some, slice_get}
use Rattle.machines.specs.declared.arch.Arch.{Arch}
use Rattle.machines.specs.Arch.{token_of}
use Rattle.machines.specs.Numbers.{foreign_numbers}
use Rattle.profile.specs.declared.rules.Rule.{Rule}
use Rattle.profile.specs.Latest.{IsFor}
use Rattle.profile.specs.Policy.{Policy}
use Rattle.cert_state.specs.declared.literal.Lit.{Lit}
use Rattle.cert_state.specs.declared.literal.Lit.TheVariants.{Bits}
use Rattle.cert_state.specs.Literals.{all_bits}
use Rattle.cert_state.specs.Points.{IsRange}
use Rattle.cert_state.specs.Entailment.{Entails}
use Rattle.cert_form.specs.Nodes.{PlainNode}
use Rattle.cert_check.specs.Agree.{Agrees, ForeignNumbersAgree}

-- a rule without conditions says v
pub record SaysAlone (v : ℕ) (rule : Rule) : Type 0 where
  pub none : rule.conds.items ≡ []
  pub word : rule.word ≡ v

-- such a rule is for the machine's call of this number
pub record IsSaidOf (policy : Policy) (v : ℕ) (arch : Arch) (nr : ℕ) : Type 0 where
  pub place : ℕ
  pub rule : Rule
  pub stands : slice_get policy.rules place ≡ Some rule
  pub is_for : IsFor (token_of arch) nr rule
  pub says : SaysAlone v rule

-- and so of each number from one to another
abbrev pub AreSaidOf : Policy → ℕ → Arch → ℕ → ℕ → Type 0
AreSaidOf policy v arch low high = (nr : ℕ) → low ≤ nr → nr ≤ high → IsSaidOf policy v arch nr

-- The record is known to be of the machine. No foreign number is possible, or v is 0. For each number of the range there is such a
-- rule.
pub record SaysOfRange (policy : Policy) (known : List Lit) (v : ℕ) (arch : Arch) : Type 0 where
  pub is_of : Entails known (Bits 1 all_bits (token_of arch))
  pub foreign : ForeignNumbersAgree known v arch (foreign_numbers policy.machines arch)
  pub low : ℕ
  pub high : ℕ
  pub range : IsRange known 0 low high
  pub each : AreSaidOf policy v arch low high

-- so it is of one of the listed machines
abbrev pub SaysOfEach : Policy → List Lit → ℕ → Type 0
SaysOfEach policy known v = Any (SaysOfRange policy known v) policy.machines

-- a node's verdict v is the profile's, by what it knows; in a sharp certificate, number by number too
abbrev pub ReturnAgrees : Policy → PlainNode → ℕ → Type 0
ReturnAgrees policy n v = Agrees policy n.out n.met n.known v ⊎ (IsTrue n.sharp × SaysOfEach policy n.known v)
