-- What `ccell compare` tells of two bundles.
use Rattle.std.specs.Prelude.{ℕ, ◌≡◌, ◌≢◌, ◌⊎◌, Bool, List, [], ◌∷◌, ◌++◌, IfSome, codes}
use Rattle.std.specs.Fmt.{decimal}
use Rattle.serde_json.specs.Data.{Data}
use Rattle.texts.specs.Lines.{line_feed}
use Rattle.machines.specs.declared.arch.Arch.{Arch}
use Rattle.machines.specs.declared.arch.Family.{Family}
use Rattle.machines.specs.Arch.{family_of}
use Rattle.wording.specs.Told.{end_of}
use Rattle.wording.specs.declared.told.End.TheVariants.{Refused}
use Rattle.wording.specs.declared.told.Told.{Told}
use Rattle.profile.specs.Policy.{Policy}
use Rattle.profile_json.specs.Breaks.{Breaks}
use Rattle.profile_json.specs.Fault.{fault_of, text_of as refusal_text}
use Rattle.profile_json.specs.Meaning.{IsText, Means}
use Rattle.profile_json.specs.declared.fault.ProfileError.{ProfileError}
use Rattle.profile_json.specs.declared.fault.ProfileError.TheVariants.{OutOfMemory}
use Rattle.compare.specs.Equal.{AreEqual}
use Rattle.compare.specs.Outcome.{IsComparison, is_done, text_of}
use Rattle.compare.specs.declared.outcome.Comparison.{Comparison}
use Rattle.compare.specs.declared.outcome.Comparison.TheVariants.{Same}

-- the text of these bytes is a bundle that means the profile
abbrev pub IsBundle : Arch → List ℕ → Policy → Type 0
IsBundle native bundle policy = (t : Data) × IsText bundle t × Means t native policy

-- the same of some profile
abbrev pub MeansProfile : Arch → List ℕ → Type 0
MeansProfile native bundle = (policy : Policy) × IsBundle native bundle policy

-- the line of a refusal, with the bundle's place
abbrev pub refusal_line : ℕ → ProfileError → List ℕ
refusal_line place e = codes "refused profile " ++ refusal_text e ++ codes ", bundle " ++ decimal place ++ line_feed ∷ []

pub record TellsRefusal (place : ℕ) (e : ProfileError) (told : Told) : Type 0 where
  pub is_fault : e ≢ OutOfMemory
  pub bytes : told.bytes.items ≡ refusal_line place e
  pub end : told.end ≡ Refused

pub record TellsComparison (atmost : Bool) (comparison : Comparison) (told : Told) : Type 0 where
  pub bytes : told.bytes.items ≡ text_of comparison
  pub end : told.end ≡ end_of (is_done atmost comparison)

-- the bundle is refused for a fault that it has
pub record IsRefused (native : Arch) (bundle : List ℕ) (place : ℕ) (told : Told) : Type 0 where
  pub fault : ProfileError
  pub stands : IfSome (fault_of fault) (Breaks bundle native)
  pub tells : TellsRefusal place fault told

-- What is told of two profiles is so. Of such as are the same but for the order of their rules, it is told that they are the
-- same.
pub record AreTold (atmost : Bool) (family : Family) (p q : Policy) (told : Told) : Type 0 where
  pub comparison : Comparison
  pub is : IsComparison family p q comparison
  pub equal : AreEqual p q → comparison ≡ Same
  pub tells : TellsComparison atmost comparison told

-- both bundles mean profiles, of which it is told
pub record AreCompared (atmost : Bool) (native : Arch) (first second : List ℕ) (told : Told) : Type 0 where
  pub one : Policy
  pub other : Policy
  pub means_one : IsBundle native first one
  pub means_other : IsBundle native second other
  pub compared : AreTold atmost (family_of native) one other told

-- the first bundle is refused; or it means a profile, and the second one is refused; or both mean profiles
abbrev pub IsCompared : Bool → Arch → List ℕ → List ℕ → Told → Type 0
IsCompared atmost native first second told =
    IsRefused native first 1 told
    ⊎ ((MeansProfile native first × IsRefused native second 2 told) ⊎ AreCompared atmost native first second told)
