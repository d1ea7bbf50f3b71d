-- What a bundle is that was made of several.
use Rattle.std.specs.Prelude.{ℕ, List}
use Rattle.std.specs.List.{AllZip}
use Rattle.serde_json.specs.Data.{Data}
use Rattle.machines.specs.declared.arch.Arch.{Arch}
use Rattle.profile.specs.Policy.{Policy}
use Rattle.profile_json.specs.Meaning.{IsText, Means}
use Rattle.together.specs.Together.{SaysTogether}
use Rattle.together.specs.declared.way.Way.{Way}

-- the text of these bytes is a bundle that means the profile
abbrev pub IsBundle : Arch → List ℕ → Policy → Type 0
IsBundle native bundle policy = (t : Data) × IsText bundle t × Means t native policy

-- the bundle means a profile that says of each call record what counts of the verdicts that several say of it
abbrev pub MeansTogether : Arch → Way → List Policy → List ℕ → Type 0
MeansTogether native way policies bundle = (policy : Policy) × IsBundle native bundle policy × SaysTogether way policies policy

-- the same of the profiles that bundles mean
abbrev pub IsCombined : Arch → Way → List (List ℕ) → List ℕ → Type 0
IsCombined native way bundles made =
    (policies : List Policy) × AllZip (IsBundle native) bundles policies × MeansTogether native way policies made
