-- What is told of a file that a command read as a bundle and refused.
use Rattle.std.specs.Prelude.{ℕ, ◌≡◌, ◌≢◌, ◌⊎◌, List, [], ◌++◌, Some, IfSome, codes}
use Rattle.machines.specs.declared.arch.Arch.{Arch}
use Rattle.profile_json.specs.Fault.{fault_of}
use Rattle.profile_json.specs.Place.{BreaksAt}
use Rattle.profile_json.specs.declared.fault.ProfileError.{ProfileError}
use Rattle.profile_json.specs.declared.fault.ProfileError.TheVariants.{OutOfMemory}
use Rattle.profile_json.specs.declared.refusal.Place.{Place}
use Rattle.section.specs.Remarks.{IsRemark}
use Rattle.section.specs.Texts.{IsBundleText}
use Rattle.section.specs.Unlike.{AreUnlike}
use Rattle.show.specs.Read.{IsPlaceLine}

-- the line that says what the text is, and behind it what readers do not take alike in it
abbrev pub IsKindText : Arch → List ℕ → List ℕ → List ℕ → Type 0
IsKindText native bytes line text = (unlike : List ℕ) × AreUnlike native bytes unlike × (text ≡ line ++ unlike)

-- the name of the file, and a line that begins with the path of a place
abbrev pub IsPlaceText : Place → List ℕ → List ℕ → Type 0
IsPlaceText place name text = (line : List ℕ) × IsPlaceLine place line × (text ≡ codes "ccell: " ++ (name ++ (codes ": " ++ line)))

-- the place at which a fault of the bundle stands
pub record TellsPlace (native : Arch) (bundle name text : List ℕ) : Type 0 where
  pub error : ProfileError
  pub is_fault : error ≢ OutOfMemory
  pub place : Place
  pub stands : IfSome (fault_of error) (BreaksAt bundle native place)
  pub tells : IsPlaceText place name text

abbrev pub IsRefusalText : Arch → List ℕ → List ℕ → List ℕ → Type 0
IsRefusalText native bundle name text = (text ≡ []) ⊎ TellsPlace native bundle name text

abbrev pub IsRemarkOn : Arch → List ℕ → List ℕ → List ℕ → Type 0
IsRemarkOn native name bytes text =
    ((line : List ℕ) × IsRemark native bytes (Some line) × IsKindText native bytes line text)
    ⊎ ((bundle : List ℕ) × IsBundleText native bytes bundle × IsRefusalText native bundle name text)
