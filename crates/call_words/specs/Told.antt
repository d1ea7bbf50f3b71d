-- What is told of the constants in a bundle.
use Rattle.std.specs.Prelude.{ℕ, ◌≡◌, ◌≢◌, ◌⊎◌, List, [], IfSome}
use Rattle.serde_json.specs.Data.{Data}
use Rattle.machines.specs.declared.arch.Arch.{Arch}
use Rattle.profile.specs.Policy.{Policy}
use Rattle.profile_json.specs.Breaks.{Breaks}
use Rattle.profile_json.specs.Fault.{fault_of}
use Rattle.profile_json.specs.Meaning.{IsText, Means}
use Rattle.profile_json.specs.declared.fault.ProfileError.{ProfileError}
use Rattle.profile_json.specs.declared.fault.ProfileError.TheVariants.{OutOfMemory}
use Rattle.call_words.specs.Lines.{text_of}

-- the bundle means a profile, and the lines of its rules are told
pub record TellsNames (native : Arch) (bundle text : List ℕ) : Type 0 where
  pub t : Data
  pub is_text : IsText bundle t
  pub policy : Policy
  pub means : Means t native policy
  pub told : text ≡ text_of policy.rules

-- the bundle is refused, and nothing is told
pub record TellsNone (native : Arch) (bundle text : List ℕ) : Type 0 where
  pub error : ProfileError
  pub is_fault : error ≢ OutOfMemory
  pub stands : IfSome (fault_of error) (Breaks bundle native)
  pub told : text ≡ []

abbrev pub AreNames : Arch → List ℕ → List ℕ → Type 0
AreNames native bundle text = TellsNone native bundle text ⊎ TellsNames native bundle text
