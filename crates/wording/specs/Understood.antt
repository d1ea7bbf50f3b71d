-- What a bundle is read as.
use Rattle.std.specs.Prelude.{ℕ, List}
use Rattle.serde_json.specs.Data.{Data}
use Rattle.machines.specs.declared.arch.Arch.{Arch}
use Rattle.profile.specs.declared.rules.Rule.{Rule}
use Rattle.profile.specs.Policy.{Policy}
use Rattle.profile_json.specs.ByEntry.{AreRulesOf}
use Rattle.profile_json.specs.Meaning.{IsText, Means}

-- the bundle means this profile on a native machine, and its entries say these rules: those of each entry end at one of these places
pub record IsReadAs (native : Arch) (bundle : List ℕ) (policy : Policy) (rules : List Rule) (ends : List ℕ) : Type 0 where
  pub t : Data
  pub is_text : IsText bundle t
  pub means : Means t native policy
  pub are : AreRulesOf native bundle rules ends
