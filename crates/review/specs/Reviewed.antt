-- What `ccell review` tells of a bundle.
use Rattle.std.specs.Prelude.{◌≡◌, ◌⊎◌, ◌++◌, ℕ, List}
use Rattle.machines.specs.declared.arch.Arch.{Arch}
use Rattle.profile.specs.declared.rules.Rule.{Rule}
use Rattle.profile.specs.Policy.{Policy}
use Rattle.wording.specs.Told.{RefusesBundle}
use Rattle.wording.specs.Understood.{IsReadAs}
use Rattle.wording.specs.declared.told.End.TheVariants.{Done}
use Rattle.wording.specs.declared.told.Told.{Told}
use Rattle.review.specs.Groups.{AreAllGroups, GroupEntry}
use Rattle.review.specs.Systemd.{group_names}
use Rattle.review.specs.SystemdTold.{TellsSystemd}
use Rattle.review.specs.Told.{TellsGroups}

-- the text tells of all groups what a profile lets through, and by which entries; then of all groups of systemd
pub record TellsProfile (policy : Policy) (rules : List Rule) (ends : List ℕ) (text : List ℕ) : Type 0 where
  pub groups : List GroupEntry
  pub are_all : AreAllGroups groups
  pub first : List ℕ
  pub tells : TellsGroups policy rules ends groups first
  pub second : List ℕ
  pub tells_systemd : TellsSystemd policy group_names second
  pub is : text ≡ first ++ second

-- the same of the profile that the bundle means, and of the bundle's entries
pub record TellsReview (native : Arch) (bundle text : List ℕ) : Type 0 where
  pub policy : Policy
  pub rules : List Rule
  pub ends : List ℕ
  pub read : IsReadAs native bundle policy rules ends
  pub tells : TellsProfile policy rules ends text

pub record ReviewsBundle (native : Arch) (bundle : List ℕ) (told : Told) : Type 0 where
  pub review : TellsReview native bundle told.bytes.items
  pub end : told.end ≡ Done

abbrev pub IsReviewed : Arch → List ℕ → Told → Type 0
IsReviewed native bundle told = RefusesBundle native bundle told ⊎ ReviewsBundle native bundle told
