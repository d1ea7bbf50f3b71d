-- What narrowing a bundle answers.
use Rattle.std.specs.Prelude.{◌≡◌, ℕ, List, true}
use Rattle.serde_json.specs.Data.{Data}
use Rattle.machines.specs.declared.arch.Arch.{Arch}
use Rattle.wording.specs.Told.{was_done}
use Rattle.wording.specs.declared.told.Told.{Told}
use Rattle.widths.specs.Alike.{IsNarrowed}
use Rattle.widths.specs.Lowered.{AreLowered, ValuesFit, with_rules}
use Rattle.profile.specs.declared.rules.Rule.{Rule}
use Rattle.profile.specs.Policy.{Policy}
use Rattle.profile_json.specs.Meaning.{IsText, Means}
use Rattle.widths.specs.declared.told.Narrowing.{Narrowing}

-- the text of these bytes is a bundle that means the profile
abbrev pub IsBundle : Arch → List ℕ → Policy → Type 0
IsBundle native bytes p = (t : Data) × IsText bytes t × Means t native p

-- What is written means the narrowed profile of what was read. In it the bits that are read stand for a value that an argument cannot have.
-- So it speaks of what is read alone. Where the arguments can have all values, it is the narrowed profile of what was read.
pub record IsWritten (native : Arch) (bundle written : List ℕ) : Type 0 where
  pub read : Policy
  pub means : IsBundle native bundle read
  pub lowers : List Rule
  pub are_lowered : AreLowered lowers read.rules
  pub narrowed : Policy
  pub says : IsBundle native written narrowed
  pub is_narrowed : IsNarrowed (with_rules read lowers) narrowed
  pub fitting : ValuesFit read.rules → IsNarrowed read narrowed

-- where it was done
abbrev pub IsTold : Arch → List ℕ → Told → Type 0
IsTold native bundle told = was_done told.end ≡ true → IsWritten native bundle told.bytes.items

abbrev pub IsNarrow : Arch → List ℕ → Narrowing → Type 0
IsNarrow native bundle narrow = IsTold native bundle narrow.told
