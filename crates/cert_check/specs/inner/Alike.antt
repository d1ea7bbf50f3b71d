-- Rules that say the same, and machines that agree.
use Rattle.std.specs.Prelude.{◌≡◌, ◌<◌, ℕ, List, slice_index_or}
use Rattle.machines.specs.declared.arch.Arch.{Arch}
use Rattle.profile.specs.declared.rules.Rule.{Rule}
use Rattle.profile.specs.Rule.{is_narrow_rule}
use Rattle.profile.specs.Policy.{Policy}
use Rattle.cert_state.specs.declared.literal.Lit.{Lit}
use Rattle.cert_check.specs.Agree.{ListedAgrees}

-- two rules have the same verdict and the same conditions, of arguments as wide
pub record SayTheSame (a b : Rule) : Type 0 where
  pub word : a.word ≡ b.word
  pub narrow : is_narrow_rule a ≡ is_narrow_rule b
  pub conds : a.conds.items ≡ b.conds.items

-- each of the first machines agrees
abbrev pub FirstAgree : Policy → List ℕ → List (ℕ × ℕ) → List Lit → ℕ → ℕ → Type 0
FirstAgree policy out met known v count =
    (k : ℕ) (d : Arch) → k < count → ListedAgrees policy out met known v (slice_index_or policy.machines k d)
