-- What `ccell lint` tells of a bundle.
use Rattle.std.specs.Prelude.{◌≡◌, ◌⊎◌, ℕ, Bool, true, false, List}
use Rattle.machines.specs.declared.arch.Arch.{Arch}
use Rattle.machines.specs.Arch.{family_of}
use Rattle.wording.specs.Told.{RefusesBundle, end_of}
use Rattle.wording.specs.declared.told.Told.{Told}
use Rattle.widths.specs.Narrow.{IsBundle}
use Rattle.profile.specs.Policy.{Policy}
use Rattle.compare.specs.LintTold.{TellsFound}
use Rattle.compare.specs.Past.{IsFinding}
use Rattle.compare.specs.declared.lint.past.Finding.{Finding}
use Rattle.compare.specs.declared.lint.past.Finding.TheVariants.{Nothing, Unlike, Undecided}

abbrev pub is_nothing : Finding → Bool
is_nothing Nothing = true
is_nothing (Unlike past stopped) = false
is_nothing (Undecided past stopped crowded) = false

-- what is found of its profile is so, and told, and it is done if nothing is found
pub record IsJudged (native : Arch) (bundle : List ℕ) (told : Told) : Type 0 where
  pub profile : Policy
  pub means : IsBundle native bundle profile
  pub found : Finding
  pub is : IsFinding (family_of native) profile found
  pub end : told.end ≡ end_of (is_nothing found)
  pub text : TellsFound native bundle found told.bytes.items

abbrev pub IsLinted : Arch → List ℕ → Told → Type 0
IsLinted native bundle told = RefusesBundle native bundle told ⊎ IsJudged native bundle told
