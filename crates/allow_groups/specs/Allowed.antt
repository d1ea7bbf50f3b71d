-- What a bundle is to which the calls of groups were added.
use Rattle.std.specs.Prelude.{ℕ, ◌≡◌, true, false, List, string_bytes}
use Rattle.call_record.specs.Words.{IsRecord}
use Rattle.call_record.specs.Verdict.{allow, is_stricter}
use Rattle.call_groups.specs.Groups.{calls_of_all}
use Rattle.machines.specs.declared.arch.Arch.{Arch}
use Rattle.profile.specs.Policy.{Policy}
use Rattle.profile.specs.Said.{is_native, said}
use Rattle.together.specs.Combined.{IsBundle}
use Rattle.wording.specs.Told.{was_done}
use Rattle.wording.specs.declared.told.Told.{Told}
use Rattle.allow_groups.specs.declared.grown.Grown.{Grown}
use Rattle.allow_groups.specs.Calls.{calls_on, is_of}
use Rattle.allow_groups.specs.Report.{report}
use Rattle.allow_groups.specs.declared.calls.MachineCall.{MachineCall}

-- the calls that a profile's machines have of groups
abbrev pub calls_for : Policy → List (List ℕ) → List MachineCall
calls_for p groups = calls_on p.machines (calls_of_all groups)

-- what is said of a profile's machines, of the calls of groups, is no stricter than ALLOW
abbrev pub AllowsGroups : List (List ℕ) → Policy → Policy → Type 0
AllowsGroups groups before after =
    (r : List ℕ) → IsRecord r → is_native before r ≡ true → is_of (calls_for before groups) r ≡ true
    → is_stricter (said after r) allow ≡ false

-- and of each other record it is what was said before
abbrev pub KeepsOthers : List (List ℕ) → Policy → Policy → Type 0
KeepsOthers groups before after =
    (r : List ℕ) → IsRecord r → is_of (calls_for before groups) r ≡ false → said after r ≡ said before r

-- the bundle means a profile that allows the calls of groups, and says of each other record what this profile says
pub record MeansWith (native : Arch) (groups : List (List ℕ)) (before : Policy) (grown : List ℕ) : Type 0 where
  pub after : Policy
  pub means : IsBundle native grown after
  pub allows : AllowsGroups groups before after
  pub keeps : KeepsOthers groups before after

-- the same of the profile that a bundle means, and lines tell which calls these are
pub record HasGroups (native : Arch) (groups : List (List ℕ)) (made grown lines : List ℕ) : Type 0 where
  pub before : Policy
  pub of_made : IsBundle native made before
  pub grows : MeansWith native groups before grown
  pub reported : lines ≡ report before.machines groups

-- the same of what is told, where it was done
abbrev pub TellsGrown : Arch → List (List ℕ) → List ℕ → Told → List ℕ → Type 0
TellsGrown native groups made told lines = was_done told.end ≡ true → HasGroups native groups made told.bytes.items lines

-- a bundle with the calls of the groups was made of a profile, and these lines tell of them; or none was
pub record HasLines (native : Arch) (groups : List (List ℕ)) (before : Policy) (lines : List ℕ) (grown : Grown) : Type 0 where
  pub grows : MeansWith native groups before grown.told.bytes.items
  pub reported : string_bytes grown.lines ≡ lines

abbrev pub TellsLines : Arch → List (List ℕ) → Policy → List ℕ → Grown → Type 0
TellsLines native groups before lines grown = was_done grown.told.end ≡ true → HasLines native groups before lines grown
