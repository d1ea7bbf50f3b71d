-- What was made, in the form in which it is told.
use Rattle.std.proofs.Common.{◌≡◌, ℕ, Bool, inl, List, [], ◌∷◌, subst, sym}
use Rattle.std.specs.Prelude.{Option, Result, Ok, Err}
use Rattle.machines.specs.declared.arch.Arch.{Arch}
use Rattle.wording.specs.declared.told.Told.{Told}
use Rattle.cli.specs.declared.stops.Stop.{Stop}
use Rattle.cli.specs.declared.stops.Stop.TheVariants.{OutOfMemory}
use Rattle.cli.specs.Dispatch.{FirstUnread}
use Rattle.cli.specs.Files.{Folder}
use Rattle.cli.specs.Told.{of_one}
use Rattle.cli.specs.Written.{WritesMade}
use Rattle.cli.specs.Grouped.{WithGroups}
use Rattle.cli.specs.inner.Telling.{GrowsTold, IsInForm, IsToldOf}

-- what stops before is told as it is
pub stopped_in : (native : Arch) (as_bundle : Bool) (made told : Result Told Stop) (stop : Stop) → made ≡ Err stop
    → IsInForm native as_bundle made told → told ≡ Err stop
stopped_in native as_bundle made told stop e h = subst (λ m. IsInForm native as_bundle m told) e h

-- memory is refused before any file is read
pub unread_memory : (folder : Option Folder) (names : List (List ℕ)) → FirstUnread folder names OutOfMemory
unread_memory folder [] = tt
unread_memory folder (name ∷ names) = inl tt

-- what is made of the text of one file is told in a form
pub told_in_form : (native : Arch) (as_bundle : Bool) (folder : Option Folder) (names : List (List ℕ)) (Is : List ℕ → Told → Type 0)
    (made told : Result Told Stop) → IsToldOf folder names (of_one Is) made → IsInForm native as_bundle made told
    → IsToldOf folder names (of_one (λ text. WritesMade native as_bundle (Is text))) told
told_in_form native as_bundle folder names Is (Ok made) (Ok told) (texts, read, is) written = (texts, read, by texts is) where
  by : (texts : List (List ℕ)) → of_one Is texts made → of_one (λ text. WritesMade native as_bundle (Is text)) texts told
  by [] is = absurd is
  by (text ∷ []) is = record { made = made; is = is; written = written }
  by (text ∷ other ∷ more) is = absurd is
told_in_form native as_bundle folder names Is (Ok made) (Err stop) read e =
    subst (λ s. FirstUnread folder names s) (sym e) (unread_memory folder names)
told_in_form native as_bundle folder names Is (Err stop) told at e =
    subst (λ t. IsToldOf folder names (of_one (λ text. WritesMade native as_bundle (Is text))) t) (sym e) at

-- so is what is made of the texts of several
pub told_each_in_form : (native : Arch) (as_bundle : Bool) (folder : Option Folder) (names : List (List ℕ))
    (Is : List (List ℕ) → Told → Type 0) (made told : Result Told Stop) → IsToldOf folder names Is made → IsInForm native as_bundle made told
    → IsToldOf folder names (λ texts. WritesMade native as_bundle (Is texts)) told
told_each_in_form native as_bundle folder names Is (Ok made) (Ok told) (texts, read, is) written =
    (texts, read, record { made = made; is = is; written = written })
told_each_in_form native as_bundle folder names Is (Ok made) (Err stop) read e =
    subst (λ s. FirstUnread folder names s) (sym e) (unread_memory folder names)
told_each_in_form native as_bundle folder names Is (Err stop) told at e =
    subst (λ t. IsToldOf folder names (λ texts. WritesMade native as_bundle (Is texts)) t) (sym e) at

-- what stops before, or for want of memory
pub stopped_grown : (native : Arch) (groups : List (List ℕ)) (made grown : Result Told Stop) (stop : Stop) → made ≡ Err stop
    → GrowsTold native groups made grown → grown ≡ Err stop
stopped_grown native groups made grown stop e h = subst (λ m. GrowsTold native groups m grown) e h

pub told_memory : (folder : Option Folder) (names : List (List ℕ)) (Is : List (List ℕ) → Told → Type 0) (told : Result Told Stop)
    → told ≡ Err OutOfMemory → IsToldOf folder names Is told
told_memory folder names Is told e = subst (λ t. IsToldOf folder names Is t) (sym e) (unread_memory folder names)

-- what is made of the text of one file is told with the calls of groups
pub told_with_groups : (native : Arch) (groups : List (List ℕ)) (folder : Option Folder) (names : List (List ℕ))
    (Is : List ℕ → Told → Type 0) (made grown : Result Told Stop) → IsToldOf folder names (of_one Is) made
    → GrowsTold native groups made grown → IsToldOf folder names (of_one (λ text. WithGroups native groups (Is text))) grown
told_with_groups native groups folder names Is (Ok made) (Ok told) (texts, read, is) grows = (texts, read, by texts is) where
  by : (texts : List (List ℕ)) → of_one Is texts made → of_one (λ text. WithGroups native groups (Is text)) texts told
  by [] is = absurd is
  by (text ∷ []) is = (made, is, grows)
  by (text ∷ other ∷ more) is = absurd is
told_with_groups native groups folder names Is (Ok made) (Err stop) read e =
    subst (λ s. FirstUnread folder names s) (sym e) (unread_memory folder names)
told_with_groups native groups folder names Is (Err stop) grown at e =
    subst (λ t. IsToldOf folder names (of_one (λ text. WithGroups native groups (Is text))) t) (sym e) at
