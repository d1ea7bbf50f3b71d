-- Why a bundle is not handed out.
use Rattle.std.specs.Prelude.{◌≡◌, ℕ, List, Some, ⊤, slice_get, take}
use Rattle.std.specs.List.{AllZip}
use Rattle.machines.specs.declared.arch.Arch.{Arch}
use Rattle.profile.specs.Policy.{Policy}
use Rattle.profile_json.specs.Breaks.{Breaks}
use Rattle.profile_json.specs.Fault.{Fault, fault_of}
use Rattle.profile_json.specs.declared.fault.ProfileError.{ProfileError}
use Rattle.together.specs.Combined.{IsBundle}
use Rattle.together.specs.OnCall.{MayBeLeft}
use Rattle.together.specs.Together.{IsUnlike}
use Rattle.together.specs.declared.bundles.Unjudged.{Unjudged}
use Rattle.together.specs.declared.bundles.Unjudged.TheVariants.{Refused, Unread, Unlike, Crowded, OutOfMemory}
use Rattle.together.specs.declared.judged.Unsettled as unsettled
use Rattle.together.specs.declared.judged.Unsettled.TheVariants as why
use Rattle.together.specs.declared.way.Way.{Way}

-- the text of these bytes has the fault that the error names
abbrev pub IsRefused : Arch → List ℕ → ProfileError → Type 0
IsRefused native bundle error = (fault : Fault) × (fault_of error ≡ Some fault) × Breaks bundle native fault

-- the bundle at the place is refused, and all before it are read
pub record IsFirstRefused (native : Arch) (bundles : List (List ℕ)) (place : ℕ) (error : ProfileError) : Type 0 where
  pub bundle : List ℕ
  pub stands : slice_get bundles place ≡ Some bundle
  pub refused : IsRefused native bundle error
  pub before : List Policy
  pub read : AllZip (IsBundle native) (take place bundles) before

-- why bundles are not read: one is refused, or there is not enough memory
abbrev pub AreUnread : Arch → List (List ℕ) → Unjudged → Type 0
AreUnread native bundles (Refused place error) = IsFirstRefused native bundles place error
AreUnread native bundles (Unread error) = ⊥
AreUnread native bundles (Unlike found) = ⊥
AreUnread native bundles (Crowded call) = ⊥
AreUnread native bundles OutOfMemory = ⊤

-- why it is not settled: a call is crowded or has too many combinations, or there is not enough memory
abbrev pub IsUnsettled : List Policy → Policy → unsettled.Unsettled → Type 0
IsUnsettled ps q (why.Crowded call) = MayBeLeft ps q call
IsUnsettled ps q why.OutOfMemory = ⊤

-- Why a bundle is not handed out that was made of profiles. It is refused, or it says another verdict of a record, or a call is crowded or
-- has too many combinations, or there is not enough memory.
abbrev pub IsUnjudged : Arch → Way → List Policy → List ℕ → Unjudged → Type 0
IsUnjudged native way ps bundle (Refused place error) = ⊥
IsUnjudged native way ps bundle (Unread error) = IsRefused native bundle error
IsUnjudged native way ps bundle (Unlike found) = (q : Policy) × IsBundle native bundle q × IsUnlike way ps q found
IsUnjudged native way ps bundle (Crowded call) = (q : Policy) × IsBundle native bundle q × MayBeLeft ps q call
IsUnjudged native way ps bundle OutOfMemory = ⊤
