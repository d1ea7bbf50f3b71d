-- The section of a bundle, written by itself.
use Rattle.std.specs.Prelude.{ℕ, List}
use Rattle.serde_json.specs.Data.{Data}
use Rattle.machines.specs.declared.arch.Arch.{Arch}
use Rattle.profile.specs.Policy.{Policy}
use Rattle.profile_json.specs.Meaning.{IsText, Means}
use Rattle.section.specs.Texts.{IsKind, in_bundle}
use Rattle.section.specs.declared.kinds.Kind.TheVariants.{Section}

-- the text of these bytes is a bundle that means the profile
abbrev pub MeansProfile : Arch → List ℕ → Policy → Type 0
MeansProfile native bytes p = (t : Data) × IsText bytes t × Means t native p

-- the second text means each profile that the first one means
abbrev pub KeepsMeaning : Arch → List ℕ → List ℕ → Type 0
KeepsMeaning native first second = (p : Policy) → MeansProfile native first p → MeansProfile native second p

-- It is a section, and in a bundle it means what this bundle means.
pub record IsSectionOf (native : Arch) (bundle section : List ℕ) : Type 0 where
  pub kind : IsKind section Section
  pub same : KeepsMeaning native bundle (in_bundle section)
