-- Bundles of which a filter and a certificate are made, whatever their rules say.
use Rattle.std.specs.Prelude.{◌≡◌, ◌≤◌, ℕ, List, []}
use Rattle.std.specs.List.{All}
use Rattle.machines.specs.declared.arch.Arch.{Arch}
use Rattle.machines.specs.declared.arch.Family.TheVariants.{Chosen}
use Rattle.machines.specs.Arch.{family_of}
use Rattle.profile.specs.declared.rules.Rule.{Rule}
use Rattle.profile.specs.Policy.{Policy}
use Rattle.rule_compile.specs.Shape.{IsPlain, tokens}
use Rattle.maker.specs.evidence.Tables.{HasSmallNumbers, IsX32Beside}
use Rattle.maker.specs.Finding.{IsBundle}

-- the bundle means a plain profile
abbrev pub IsPlainBundle : Arch → List ℕ → Type 0
IsPlainBundle native bundle = (policy : Policy) × IsBundle native bundle policy × IsPlain policy

-- the bundle means a profile that is not plain
abbrev pub IsNotPlain : Arch → List ℕ → Type 0
IsNotPlain native bundle = (policy : Policy) × IsBundle native bundle policy × (IsPlain policy → ⊥)

-- ---- which bundles are plain

-- the rule has no condition
abbrev pub HasNoConditions : Rule → Type 0
HasNoConditions rule = rule.conds.items ≡ []

-- Of the chosen lists each bundle without conditions. Of all of Linux each without conditions, for calls of machines with small numbers.
-- There the machines must have two tokens at most, and x32 must stand beside x86-64.
pub record BundlesArePlain : Type 0 where
  pub chosen : (native : Arch) (bundle : List ℕ) (policy : Policy) → IsBundle native bundle policy → family_of native ≡ Chosen
      → All HasNoConditions policy.rules → IsPlain policy
  pub whole : (native : Arch) (bundle : List ℕ) (policy : Policy) → IsBundle native bundle policy → tokens policy.machines ≤ 2
      → IsX32Beside policy.machines → All (λ rule. HasNoConditions rule × HasSmallNumbers rule.arch) policy.rules → IsPlain policy
