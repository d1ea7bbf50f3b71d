-- What building a profile answers.
use Rattle.std.specs.Prelude.{◌≡◌, ◌<◌, ◌≤◌, ℕ, List, [], ◌∷◌, ◌++◌, length, take, Some, slice_get}
use Rattle.std.specs.List.{All, Contains}
use Rattle.machines.specs.declared.arch.Arch.{Arch}
use Rattle.machines.specs.Arch.{family_of, AreOfFamily}
use Rattle.profile.specs.declared.rules.Rule.{Rule}
use Rattle.profile.specs.declared.fault.BuildError.{BuildError}
use Rattle.profile.specs.declared.fault.BuildError.TheVariants.{NativeMissing, MixedFamilies, ForeignRule, Overlap, TooMany, OutOfMemory}
use Rattle.profile.specs.Rule.{Clash}
use Rattle.profile.specs.Policy.{Policy, IsProfile, IsClear, most_rules}

-- `kept` is `rules` with each rule at its first place alone
pub data KeepsOnce : List Rule → List Rule → Type 0 where
  none : KeepsOnce [] []
  first : (rules kept : List Rule) (rule : Rule) → KeepsOnce rules kept → ¬ Contains rules rule
      → KeepsOnce (rules ++ rule ∷ []) (kept ++ rule ∷ [])
  again : (rules kept : List Rule) (rule : Rule) → KeepsOnce rules kept → Contains rules rule → KeepsOnce (rules ++ rule ∷ []) kept

-- the profile of this native machine, these machines, this default verdict and these rules
pub record IsBuiltOf (native : Arch) (archs : List Arch) (default_word : ℕ) (rules : List Rule) (p : Policy) : Type 0 where
  pub is_profile : IsProfile p
  pub native_is : p.native ≡ native
  pub machines_listed : (a : Arch) → Contains p.machines a → Contains archs a
  pub machines_all : All (Contains p.machines) archs
  pub default_is : p.default_word ≡ default_word
  pub rules_kept : KeepsOnce rules p.rules

-- what is built is one profile
abbrev pub BuildingIsOne : Type 0
BuildingIsOne = (native : Arch) (archs : List Arch) (default_word : ℕ) (rules : List Rule) (p q : Policy)
    → IsBuiltOf native archs default_word rules p → IsBuiltOf native archs default_word rules q → p ≡ q

-- ---- errors

-- the native machine is listed, and machines of its family alone
abbrev pub AreMachinesFor : Arch → List Arch → Type 0
AreMachinesFor native archs = Contains archs native × AreOfFamily (family_of native) archs

-- the machines of these rules are listed
abbrev pub AreListed : List Arch → List Rule → Type 0
AreListed archs rules = All (λ rule. Contains archs rule.arch) rules

-- the least place of a rule for a machine that is not listed
pub record IsFirstForeign (archs : List Arch) (rules : List Rule) (i : ℕ) : Type 0 where
  pub rule : Rule
  pub at : slice_get rules i ≡ Some rule
  pub foreign : ¬ Contains archs rule.arch
  pub least : AreListed archs (take i rules)

-- more rules are different than a profile may have
abbrev pub AreTooMany : List Rule → Type 0
AreTooMany rules = (kept : List Rule) × KeepsOnce rules kept × (most_rules < length kept)

-- the rules at these places, the lesser first, clash
abbrev pub ClashAt : List Rule → ℕ → ℕ → Type 0
ClashAt rules i j = (i < j) × (a : Rule) × (b : Rule) × (slice_get rules i ≡ Some a) × (slice_get rules j ≡ Some b) × Clash a b

-- the least places of rules that clash: the second is the least, and then the first
pub record IsFirstClash (rules : List Rule) (i j : ℕ) : Type 0 where
  pub clash : ClashAt rules i j
  pub second_least : IsClear (take j rules)
  pub first_least : (k : ℕ) → ClashAt rules k j → i ≤ k

-- The cause of an error stands in the arguments, and none that is looked for before it. Memory is asked for
-- only where all machines are listed and are of one family.
abbrev pub IsFirstCause : Arch → List Arch → List Rule → BuildError → Type 0
IsFirstCause native archs rules NativeMissing = ¬ Contains archs native
IsFirstCause native archs rules MixedFamilies = Contains archs native × ¬ AreOfFamily (family_of native) archs
IsFirstCause native archs rules (ForeignRule i) = AreMachinesFor native archs × IsFirstForeign archs rules i
IsFirstCause native archs rules TooMany = AreMachinesFor native archs × AreListed archs rules × AreTooMany rules
IsFirstCause native archs rules (Overlap i j) =
    AreMachinesFor native archs × AreListed archs rules × ¬ AreTooMany rules × IsFirstClash rules i j
IsFirstCause native archs rules OutOfMemory = AreMachinesFor native archs × AreListed archs rules
