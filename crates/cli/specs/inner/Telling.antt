-- What functions tell of files, before it is written.
use Rattle.std.specs.Prelude.{ℕ, map, ◌≡◌, ◌⊎◌, Some, None, List, [], ◌∷◌, ◌++◌, Bool, Option, Result, Ok, Err}
use Rattle.texts.specs.Failures.{Failures}
use Rattle.wording.specs.declared.told.Told.{Told}
use Rattle.cli.specs.declared.stops.Stop.{Stop}
use Rattle.machines.specs.declared.arch.Arch.{Arch}
use Rattle.byte_order.specs.Turned.{read_as}
use Rattle.cli.specs.declared.adapting.OutputAndReport.{OutputAndReport}
use Rattle.cli.specs.declared.stops.Stop.TheVariants.{CannotRead, OutOfMemory, Usage}
use Rattle.explain.specs.Audit.{IsAudited}
use Rattle.strace_logs.specs.Given.{GivesAll}
use Rattle.strace_logs.specs.Learned.{TellsLearned}
use Rattle.strace_logs.specs.Wish.{AskFor}
use Rattle.strace_logs.specs.declared.lists.Otherwise.{Otherwise}
use Rattle.strace_logs.specs.declared.lists.Runtime.{Runtime}
use Rattle.strace_logs.specs.declared.reading.Shown.{Shown}
use Rattle.strace_logs.specs.Taken.{HaveShown}
use Rattle.cli.specs.Dispatch.{FirstUnread, HaveBytes, StopsAt, StopsAtLog, WritesTold}
use Rattle.cli.specs.Files.{Folder, HasBytes}
use Rattle.cli.specs.Input.{StopsInput}
use Rattle.cli.specs.Adapted.{AskNothing, IsMadeAs}
use Rattle.cli.specs.Combined.{TellsCombined, TellsStack}
use Rattle.cli.specs.Grouped.{AreKnown, IsGrown, OneIsUnknown, groups_in, others_in}
use Rattle.cli.specs.Told.{IsManual, IsNoCommand, IsReplayed, NamesLogs, OfArguments, OfBundle, OfEach, of_none, of_one}
use Rattle.cli.specs.Widened.{TellsWidened, from_in, rest_of}
use Rattle.cli.specs.Written.{IsWritten, NamesForm, WritesMade}
use Rattle.together.specs.declared.way.Way.{Way}

-- the files are read, and what is so of their bytes is told; or the program stops there
abbrev pub IsToldOf : Option Folder → List (List ℕ) → (List (List ℕ) → Told → Type 0) → Result Told Stop → Type 0
IsToldOf folder names Is (Ok told) = (texts : List (List ℕ)) × HaveBytes folder names texts × Is texts told
IsToldOf folder names Is (Err stop) = FirstUnread folder names stop

-- what is so of a text that was read is told, or memory is refused
abbrev pub TellsText : (Told → Type 0) → Result Told Stop → Type 0
TellsText Is (Ok told) = Is told
TellsText Is (Err stop) = stop ≡ OutOfMemory

-- what is told is written, or the program stops and nothing is
abbrev pub TellsOn : {O : Type 0} → (O → Option (List ℕ)) → (O → Failures) → O → O → Result Told Stop → Result Bool Stop → Type 0
TellsOn held failures old new (Ok told) result = WritesTold held failures old new told result
TellsOn held failures old new (Err stop) result = (result ≡ Err stop) × (new ≡ old)

-- what is told on standard output, of what is told there and on standard error
abbrev pub told_in : Result OutputAndReport Stop → Result Told Stop
told_in (Ok both) = Ok both.told
told_in (Err stop) = Err stop

-- the commands, or the page of one, unless there is no command of that name
abbrev pub IsManualOf : Option Folder → Option (List ℕ) → Result Told Stop → Type 0
IsManualOf folder name told = (IsNoCommand name × (told ≡ Err Usage)) ⊎ IsToldOf folder [] (of_none (IsManual name)) told

-- what was made is told in a form, unless the program stopped
abbrev pub IsInForm : Arch → Bool → Result Told Stop → Result Told Stop → Type 0
IsInForm native as_bundle (Ok made) (Ok told) = IsWritten native as_bundle made told
IsInForm native as_bundle (Ok made) (Err stop) = stop ≡ OutOfMemory
IsInForm native as_bundle (Err stop) told = told ≡ Err stop

-- what was made is told with the calls of groups, unless the program stopped
abbrev pub GrowsTold : Arch → List (List ℕ) → Result Told Stop → Result Told Stop → Type 0
GrowsTold native groups (Ok made) (Ok told) = IsGrown native groups made told
GrowsTold native groups (Ok made) (Err stop) = stop ≡ OutOfMemory
GrowsTold native groups (Err stop) told = told ≡ Err stop

-- the same where there is each of the groups
abbrev pub IsWithGroups : Arch → List (List ℕ) → Result Told Stop → Result Told Stop → Type 0
IsWithGroups native groups made told =
    (OneIsUnknown groups × (told ≡ Err Usage))
    ⊎ ((told ≡ Err OutOfMemory)
    ⊎ (AreKnown groups × GrowsTold native groups made told))

-- the bundle that is made of a configuration, unless the words ask for nothing
abbrev pub IsBundleOf : Option Folder → Arch → List ℕ → List (List ℕ) → Result Told Stop → Type 0
IsBundleOf folder native config words told =
    (AskNothing words × (told ≡ Err Usage))
    ⊎ IsToldOf folder (config ∷ []) (of_one (λ text. OfArguments (IsMadeAs native text) words)) told

-- the same with the calls of the groups that are among the words
abbrev pub IsGrownBundleOf : Option Folder → Arch → List ℕ → List (List ℕ) → Result Told Stop → Type 0
IsGrownBundleOf folder native config words told =
    (made : Result Told Stop) × IsBundleOf folder native config (others_in words) made × IsWithGroups native (groups_in words) made told

-- the same in the form that the words ask for
pub record IsAdaptedOf (folder : Option Folder) (native : Arch) (config : List ℕ) (words : List (List ℕ)) (told : Result Told Stop)
    : Type 0 where
  pub others : List (List ℕ)
  pub as_bundle : Bool
  pub named : NamesForm words others as_bundle
  pub made : Result Told Stop
  pub is_made : IsBundleOf folder native config (others_in others) made
  pub grown : Result Told Stop
  pub grows : IsWithGroups native (groups_in others) made grown
  pub written : IsInForm native as_bundle grown told

-- what a bundle says of the calls of the logs that the words name
pub record IsReplayOf (folder : Option Folder) (native : Arch) (bundle : List ℕ) (words : List (List ℕ)) (told : Result Told Stop)
    : Type 0 where
  pub logs : List (List ℕ)
  pub unused : Bool
  pub named : NamesLogs words logs unused
  pub is : IsToldOf folder (bundle ∷ logs) (IsReplayed native unused logs) told

-- the profile that bundles mean together, in the form that the words ask for
pub record IsCombinedOf (folder : Option Folder) (native : Arch) (way : Way) (words : List (List ℕ)) (told : Result Told Stop)
    : Type 0 where
  pub bundles : List (List ℕ)
  pub as_bundle : Bool
  pub named : NamesForm words bundles as_bundle
  pub is : IsToldOf folder bundles (λ texts. WritesMade native as_bundle (OfEach native (TellsCombined native way) texts)) told

-- the one that filters mean together
pub record IsStackOf (folder : Option Folder) (native : Arch) (words : List (List ℕ)) (told : Result Told Stop) : Type 0 where
  pub filters : List (List ℕ)
  pub as_bundle : Bool
  pub named : NamesForm words filters as_bundle
  pub is : IsToldOf folder filters (λ files. WritesMade native as_bundle (TellsStack native (map (read_as native) files))) told

-- the program stops at the file of that name, or for want of memory
abbrev pub StopsAtName : List ℕ → Stop → Type 0
StopsAtName name (CannotRead told) = told.now ≡ name
StopsAtName name OutOfMemory = Unit {0}
StopsAtName name other = ⊥

-- behind those of these texts, the calls of the bytes of one more log were gathered
abbrev pub ShowsMore : Option Folder → Arch → List ℕ → List (List ℕ) → Shown → Type 0
ShowsMore folder native name texts shown = (text : List ℕ) × HasBytes folder name text × HaveShown native (texts ++ text ∷ []) shown

-- the calls of the bytes of logs were gathered
abbrev pub ShowEach : Option Folder → Arch → List (List ℕ) → Shown → Type 0
ShowEach folder native logs shown = (texts : List (List ℕ)) × HaveBytes folder logs texts × HaveShown native texts shown

-- what is learned from logs, unless the program stops at one
abbrev pub IsLearnedFrom : Option Folder → Arch → List (List ℕ) → Option Runtime → Otherwise → Result Told Stop → Type 0
IsLearnedFrom folder native logs runtime otherwise (Ok told) =
    (texts : List (List ℕ)) × HaveBytes folder logs texts × TellsLearned native texts runtime otherwise told
IsLearnedFrom folder native logs runtime otherwise (Err stop) = StopsAtLog folder logs stop

-- the same of the logs that the words name, unless it stops before
abbrev pub IsLearnedBundleOf : Option Folder → Arch → List (List ℕ) → Result Told Stop → Type 0
IsLearnedBundleOf folder native words told =
    (told ≡ Err Usage)
    ⊎ ((told ≡ Err OutOfMemory)
    ⊎ ((logs : List (List ℕ)) × (runtime : Option Runtime) × (otherwise : Otherwise) × AskFor words logs runtime otherwise
    × IsLearnedFrom folder native logs runtime otherwise told))

-- what a profile and logs give together, unless the program stops at one of them
abbrev pub IsWidenedFrom : Option Folder → Arch → List ℕ → List (List ℕ) → Option Runtime → Otherwise → Result Told Stop → Type 0
IsWidenedFrom folder native profile logs runtime otherwise (Ok told) =
    (file : List ℕ) × (texts : List (List ℕ)) × HasBytes folder profile file × HaveBytes folder logs texts
    × TellsWidened native file texts runtime otherwise told
IsWidenedFrom folder native profile logs runtime otherwise (Err stop) = StopsAt folder profile stop ⊎ StopsAtLog folder logs stop

-- the same of the logs that the words name, unless it stops before
abbrev pub IsWidenedOf : Option Folder → Arch → List ℕ → List (List ℕ) → Result Told Stop → Type 0
IsWidenedOf folder native profile words told =
    (told ≡ Err Usage)
    ⊎ ((told ≡ Err OutOfMemory)
    ⊎ ((logs : List (List ℕ)) × (runtime : Option Runtime) × (otherwise : Otherwise) × AskFor words logs runtime otherwise
    × IsWidenedFrom folder native profile logs runtime (rest_of words otherwise) told))

-- what is learned by words, from a profile and logs or from logs alone
abbrev pub IsLearnedBy : Option Folder → Arch → Option (List ℕ × List (List ℕ)) → List (List ℕ) → Result Told Stop → Type 0
IsLearnedBy folder native (Some from) words told = IsWidenedOf folder native from.0 from.1 told
IsLearnedBy folder native None words told = IsLearnedBundleOf folder native words told

-- the same with the calls of the groups that are among the words
abbrev pub IsGrownLearnedOf : Option Folder → Arch → List (List ℕ) → Result Told Stop → Type 0
IsGrownLearnedOf folder native words told =
    (made : Result Told Stop) × IsLearnedBy folder native (from_in (others_in words)) (others_in words) made
    × IsWithGroups native (groups_in words) made told

-- the same in the form that the words ask for
pub record IsLearnedOf (folder : Option Folder) (native : Arch) (words : List (List ℕ)) (told : Result Told Stop) : Type 0 where
  pub others : List (List ℕ)
  pub as_bundle : Bool
  pub named : NamesForm words others as_bundle
  pub made : Result Told Stop
  pub is_made : IsLearnedBy folder native (from_in (others_in others)) (others_in others) made
  pub grown : Result Told Stop
  pub grows : IsWithGroups native (groups_in others) made grown
  pub written : IsInForm native as_bundle grown told

-- the input is read to its end, and what a bundle says of its lines is told; or the program stops
abbrev pub TellsAudit : Option (List ℕ) → Option (List ℕ) → Failures → Failures → Arch → List ℕ → Result Told Stop → Type 0
TellsAudit left left' given given' native bundle (Ok told) =
    (lines : List ℕ) × GivesAll left left' lines × IsAudited native bundle lines told
TellsAudit left left' given given' native bundle (Err stop) = StopsInput given given' stop

-- the same of a bundle in a file; where the program stops there, nothing of the input is read
module _ {I : Type 0} (left : I → Option (List ℕ)) (given : I → Failures) (folder : Option Folder) (old new : I) where
  abbrev pub IsAuditOf : Arch → List ℕ → Result Told Stop → Type 0
  IsAuditOf native bundle (Ok told) =
      (lines : List ℕ) × GivesAll (left old) (left new) lines
      × IsToldOf folder (bundle ∷ []) (of_one (OfBundle native (λ text. IsAudited native text lines))) (Ok told)
  IsAuditOf native bundle (Err stop) =
      (FirstUnread folder (bundle ∷ []) stop × (new ≡ old)) ⊎ StopsInput (given old) (given new) stop
