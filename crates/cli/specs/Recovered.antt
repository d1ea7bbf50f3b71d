-- What `recover` tells of a filter, and the words behind it.
use Rattle.std.specs.Prelude.{ℕ, ◌≡◌, ◌||◌, Bool, true, false, List, [], ◌∷◌, codes}
use Rattle.std.specs.Str.{bytes_eq}
use Rattle.aside.specs.declared.leave.Leave.{Leave}
use Rattle.machines.specs.declared.arch.Arch.{Arch}
use Rattle.recover.specs.Recovered.{IsRecovered}
use Rattle.aside.specs.RecoveredBut.{IsToldBut}
use Rattle.recover_others.specs.RecoveredOthers.{IsRecoveredOthers}
use Rattle.wording.specs.Told.{was_done}
use Rattle.wording.specs.declared.told.Told.{Told}
use Rattle.cli.specs.Written.{IsEmptyUnlessDone}

-- if it was done, the bundle that is told means the filter's profile
abbrev pub TellsRecovered : Arch → List ℕ → Told → Type 0
TellsRecovered native filter told = (was_done told.end ≡ true → IsRecovered native told.bytes.items filter) × IsEmptyUnlessDone told

-- if it was done, the filter is right for the bundle that is told but for calls of which lines tell
abbrev pub TellsRecoveredBut : Arch → Bool → Leave → List ℕ → Told → Type 0
TellsRecoveredBut native runc leave filter told =
    (was_done told.end ≡ true → (lines : List ℕ) × IsToldBut native filter runc leave told.bytes.items lines) × IsEmptyUnlessDone told

-- if it was done, the filter allows calls of other machines, and the bundle that is told means what it says of all others
abbrev pub TellsRecoveredOthers : Arch → List ℕ → Told → Type 0
TellsRecoveredOthers native filter told =
    (was_done told.end ≡ true → IsRecoveredOthers native told.bytes.items filter) × IsEmptyUnlessDone told

-- one of the words is this
abbrev pub has_word : List ℕ → List (List ℕ) → Bool
has_word word [] = false
has_word word (other ∷ others) = bytes_eq other word || has_word word others

-- the calls that the words leave aside
abbrev pub leave_in : List (List ℕ) → Leave
leave_in words = record { unnamed = has_word (codes "calls") words; x32 = has_word (codes "without-x32") words }

-- the words leave some calls out
abbrev pub leaves_out : List (List ℕ) → Bool
leaves_out words = has_word (codes "runc") words || (has_word (codes "calls") words || has_word (codes "without-x32") words)

abbrev pub TellsBy : Bool → Arch → List (List ℕ) → List ℕ → Told → Type 0
TellsBy true native words filter told = TellsRecoveredBut native (has_word (codes "runc") words) (leave_in words) filter told
TellsBy false native words filter told = TellsRecovered native filter told

-- the words say that the filter allows calls of other machines
abbrev pub allows_others : List (List ℕ) → Bool
allows_others words = has_word (codes "others") words

abbrev pub TellsIf : Bool → Arch → List (List ℕ) → List ℕ → Told → Type 0
TellsIf true native words filter told = TellsRecoveredOthers native filter told
TellsIf false native words filter told = TellsBy (leaves_out words) native words filter told

-- what is told as the words ask
abbrev pub TellsAsked : Arch → List (List ℕ) → List ℕ → Told → Type 0
TellsAsked native words filter told = TellsIf (allows_others words) native words filter told
