-- In which form a bundle is written that was made.
use Rattle.std.specs.Prelude.{ℕ, ◌≡◌, ◌⊎◌, Bool, true, false, List, [], ◌∷◌, ◌++◌, codes}
use Rattle.machines.specs.declared.arch.Arch.{Arch}
use Rattle.machines.specs.declared.arch.Family.{Family}
use Rattle.machines.specs.declared.arch.Family.TheVariants.{Chosen, Whole}
use Rattle.machines.specs.Arch.{family_of}
use Rattle.wording.specs.Told.{was_done}
use Rattle.wording.specs.declared.told.Told.{Told}
use Rattle.section.specs.Sections.{IsSectionOf}

-- `bundle` stands behind the others
abbrev pub AskBundle : List (List ℕ) → List (List ℕ) → Type 0
AskBundle words others = words ≡ others ++ codes "bundle" ∷ []

-- the words but for a last one that asks for the bundle, and whether one does
abbrev pub NamesForm : List (List ℕ) → List (List ℕ) → Bool → Type 0
NamesForm words others true = AskBundle words others
NamesForm words others false = (words ≡ others) × ((more : List (List ℕ)) → ¬ AskBundle words more)

-- if it was not done, nothing is written
abbrev pub IsEmptyUnlessDone : Told → Type 0
IsEmptyUnlessDone told = was_done told.end ≡ false → told.bytes.items ≡ []

-- The section of a bundle that was made, or nothing. Or none was made, which is told.
abbrev pub IsItsSection : Arch → Told → Told → Type 0
IsItsSection native made told =
    ((was_done made.end ≡ false) × (told ≡ made))
    ⊎ ((was_done made.end ≡ true) ×
    ((was_done told.end ≡ true → IsSectionOf native made.bytes.items told.bytes.items) × IsEmptyUnlessDone told))

-- Where all calls of Linux are meant, a section is written. For the machines of the chosen lists, where none is read, it is the bundle.
abbrev pub IsWrittenFor : Family → Arch → Told → Told → Type 0
IsWrittenFor Chosen native made told = told ≡ made
IsWrittenFor Whole native made told = IsItsSection native made told

-- what is told of what was made: the bundle, where it is asked for
abbrev pub IsWritten : Arch → Bool → Told → Told → Type 0
IsWritten native true made told = told ≡ made
IsWritten native false made told = IsWrittenFor (family_of native) native made told

-- so is what was made
pub record WritesMade (native : Arch) (as_bundle : Bool) (Is : Told → Type 0) (told : Told) : Type 0 where
  pub made : Told
  pub is : Is made
  pub written : IsWritten native as_bundle made told
