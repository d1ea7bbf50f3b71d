-- What is told of what was made stays so if it is doubtful.
use Rattle.std.proofs.Common.{◌≡◌, ◌∙◌, ℕ, List, [], ap, subst, sym, false, true}
use Rattle.std.specs.Global.{Vec}
use Rattle.machines.specs.declared.arch.Arch.{Arch}
use Rattle.wording.specs.Told.{was_done}
use Rattle.wording.specs.declared.told.Told.{Told}
use Rattle.widths.specs.Narrow.{IsTold, IsWritten}
use Rattle.allow_groups.specs.Allowed.{HasGroups, TellsGrown}
use Rattle.section.specs.Sections.{IsSectionOf}
use Rattle.cli.specs.Written.{IsEmptyUnlessDone}

-- a narrowed bundle
pub told_as_doubtful : (native : Arch) (bundle : List ℕ) (told new : Told) → new.bytes ≡ told.bytes → was_done new.end ≡ was_done told.end
    → IsTold native bundle told → IsTold native bundle new
told_as_doubtful native bundle told new bytes done is = λ was.
    subst (λ (b : Vec ℕ). IsWritten native bundle b.items) (sym bytes) (is (sym done ∙ was))

-- one with the calls of groups
pub grown_as_doubtful : (native : Arch) (groups : List (List ℕ)) (made : List ℕ) (told new : Told) (lines : List ℕ) → new.bytes ≡ told.bytes
    → was_done new.end ≡ was_done told.end → TellsGrown native groups made told lines → TellsGrown native groups made new lines
grown_as_doubtful native groups made told new lines bytes done is = λ was.
    subst (λ (b : Vec ℕ). HasGroups native groups made b.items lines) (sym bytes) (is (sym done ∙ was))

-- the section of one
pub section_as_doubtful : (native : Arch) (made : List ℕ) (told new : Told) → new.bytes ≡ told.bytes
    → was_done new.end ≡ was_done told.end
    → (was_done told.end ≡ true → IsSectionOf native made told.bytes.items) × IsEmptyUnlessDone told
    → (was_done new.end ≡ true → IsSectionOf native made new.bytes.items) × IsEmptyUnlessDone new
section_as_doubtful native made told new bytes done (is, empty) = (
  λ was. subst (λ (b : Vec ℕ). IsSectionOf native made b.items) (sym bytes) (is (sym done ∙ was)),
  λ none. ap (λ (b : Vec ℕ). b.items) bytes ∙ empty (sym done ∙ none),
)
