-- What is made of the entries that were read.
use Rattle.std.specs.Prelude.{◌≡◌, List, map}
use Rattle.machines.specs.declared.arch.Arch.{Arch}
use Rattle.machines.specs.Arch.{family_of}
use Rattle.profile.specs.declared.rules.Rule.{Rule}
use Rattle.profile.specs.Machines.{in_order}
use Rattle.profile.specs.Policy.{Policy}
use Rattle.profile.specs.Build.{IsBuiltOf, AreTooMany}
use Rattle.profile_json.specs.Fault.{Fault, too_many}
use Rattle.profile_json.specs.Parts.{rule_parts}
use Rattle.profile_json.specs.Rules.{rules_of}
use Rattle.profile_json.specs.inner.Reading.{Said}
use Rattle.profile_json.specs.inner.Clashes.{IsOverlap}

-- the profile of the rules that were said
pub record IsMade (said : Said) (native : Arch) (p : Policy) : Type 0 where
  pub rules : List Rule
  pub rules_are : map rule_parts rules ≡ rules_of (in_order (family_of native) said.archs) said.entries
  pub built : IsBuiltOf native (in_order (family_of native) said.archs) said.default_word rules p

-- why no profile is made of them
pub data IsNotMade (said : Said) (native : Arch) : Fault → Type 0 where
  many : (rules : List Rule) → map rule_parts rules ≡ rules_of (in_order (family_of native) said.archs) said.entries → AreTooMany rules
      → IsNotMade said native too_many
  clash : (f : Fault) → IsOverlap (in_order (family_of native) said.archs) said.entries f → IsNotMade said native f
