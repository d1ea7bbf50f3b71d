-- THE PROGRAM. What it writes and the status that it ends with, of a command, of files, and of what is read on standard input.
use Rattle.std.specs.Prelude.{ℕ, ◌≡◌, ◌≢◌, ◌⊎◌, ◌||◌, Bool, true, false, List, [], ◌∷◌, ◌++◌, codes}
use Rattle.std.specs.Prelude.{if◌then◌else◌, map, Option, Some, None, Result, Ok, Err}
use Rattle.std.specs.Str.{bytes_eq}
use Rattle.machines.specs.declared.arch.Arch.{Arch}
use Rattle.machines.specs.Arch.{is_big_endian}
use Rattle.command_line.specs.Lines.{Given, IsCommandLine, NoCommandLine, command_of, texts}
use denote.Ref.{Bor}
use Rattle.command_line.specs.declared.prose.Command.{Command}
use Rattle.command_line.specs.declared.prose.Command.TheVariants.{Verdict, Check, Certify, Export, Run, Explain, Record, Assemble}
use Rattle.command_line.specs.declared.prose.Command.TheVariants.{Read, Annotate, Draw, Lint, Compare, Adapt, Learn}
use Rattle.command_line.specs.declared.prose.Command.TheVariants.{Replay, Recover, Join, Meet, Stack, Flatten, Review}
use Rattle.command_line.specs.declared.prose.Command.TheVariants.{Json, Manual, Version}
use Rattle.aside.specs.declared.leave.Leave.{Leave}
use Rattle.aside.specs.Told.{CertifiesBut}
use Rattle.cli.specs.Paged.{TellsPage, TellsPages}
use Rattle.cli.specs.Parts.{Parts, form_of, part, parts_of}
use Rattle.byte_order.specs.Turned.{read_as}
use Rattle.texts.specs.Failures.{Failures}
use Rattle.texts.specs.Sink.{StopsAt as StopsWriting, Wrote}
use Rattle.texts.specs.declared.streams.fault.WriteFault.{WriteFault}
use Rattle.maker.specs.declared.export.form.Form.{Form}
use Rattle.explain.specs.Told.{IsAssembled, IsExplained, IsRecorded, IsVersion}
use Rattle.wording.specs.Told.{was_done}
use Rattle.wording.specs.declared.told.End.{End}
use Rattle.wording.specs.declared.told.End.TheVariants as end
use Rattle.wording.specs.declared.told.Told.{Told}
use Rattle.explain.specs.Any.{IsExplained as IsExplainedAny}
use Rattle.explain.specs.Audit.{IsAudited}
use Rattle.show.specs.Shown.{IsDrawn}
use Rattle.compare.specs.Behind.{CertifiesAllBehind, CertifiesBehind}
use Rattle.compare.specs.Counterexamples.{TellsAll}
use Rattle.cli.specs.Compared.{TellsCompared}
use Rattle.compare.specs.FiltersTold.{IsTold}
use Rattle.strace_logs.specs.Given.{GivesAll}
use Rattle.strace_logs.specs.Learned.{TellsLearned}
use Rattle.strace_logs.specs.Wish.{AskFor}
use Rattle.strace_logs.specs.declared.lists.Otherwise.{Otherwise}
use Rattle.strace_logs.specs.declared.lists.Runtime.{Runtime}
use Rattle.maker.specs.Answer.{WritesAnswer}
use Rattle.maker.specs.Certified.{Certifies}
use Rattle.maker.specs.Exported.{Exports}
use Rattle.maker.specs.Finding.{WritesFinding}
use Rattle.cli.specs.declared.stops.Stop.{Stop}
use Rattle.cli.specs.declared.stops.Stop.TheVariants.{CannotRead, Doubtful, OutOfMemory, Refused, Usage, Write}
use Rattle.cli.specs.Explained.{TellsAllBehind, TellsBehind, TellsRecord}
use Rattle.cli.specs.Adapted.{AskNothing, IsMadeAs}
use Rattle.cli.specs.Grouped.{OneIsUnknown, WithGroups, groups_in, others_in}
use Rattle.cli.specs.Read.{TellsLinted, TellsRead, TellsRules}
use Rattle.cli.specs.Remarked.{RemarksBy}
use Rattle.cli.specs.Recovered.{TellsAsked, has_word}
use Rattle.review.specs.Reviewed.{IsReviewed}
use Rattle.cli.specs.Combined.{TellsCombined, TellsStack}
use Rattle.cli.specs.Flat.{TellsFlat}
use Rattle.together.specs.declared.way.Way.{Way}
use Rattle.together.specs.declared.way.Way.TheVariants.{Laxest, Strictest}
use Rattle.cli.specs.Told.{IsManual, IsNoCommand, IsReplayed, NamesLogs, of_none, of_one}
use Rattle.cli.specs.Told.{of_two, OfArguments, OfBundle, OfBundles, OfEach, TellsFilter}
use Rattle.cli.specs.Widened.{TellsWidened, from_in, rest_of}
use Rattle.cli.specs.Written.{NamesForm, WritesMade}
use Rattle.cli.specs.Files.{CannotBeRead, Folder, HasBundle, HasBytes, HasEnough, HasFilter}
use Rattle.cli.specs.Input.{StopsInput}
use Rattle.cli.specs.Exported.{TellsExported}
use Rattle.cli.specs.Json.{Kept, TellsObjects, WritesObjects, is_json, kept, kept_failures}
use Rattle.cli.specs.Running.{RunsBundles, told_line}
use Rattle.cli.specs.Stop.{ReportsOn, status_of}

-- the program stops since the file of that name cannot be read, or for want of memory
abbrev pub StopsAt : Option Folder → List ℕ → Stop → Type 0
StopsAt folder name (CannotRead told) = (told.now ≡ name) × CannotBeRead folder name
StopsAt folder name OutOfMemory = Unit {0}
StopsAt folder name other = ⊥

-- it stops at one of the files, and those before it can be read; memory may be refused before any
abbrev pub FirstUnread : Option Folder → List (List ℕ) → Stop → Type 0
FirstUnread folder [] OutOfMemory = Unit {0}
FirstUnread folder [] stop = ⊥
FirstUnread folder (name ∷ names) stop =
    StopsAt folder name stop ⊎ (((bytes : List ℕ) × HasBytes folder name bytes) × FirstUnread folder names stop)

-- the files of these names have these bytes, in order
abbrev pub HaveBytes : Option Folder → List (List ℕ) → List (List ℕ) → Type 0
HaveBytes folder [] [] = Unit {0}
HaveBytes folder (name ∷ names) (bytes ∷ texts) = HasBytes folder name bytes × HaveBytes folder names texts
HaveBytes folder names texts = ⊥

-- the files of these names have bytes that are taken as these bundles, in order
abbrev pub HaveBundles : Arch → Option Folder → List (List ℕ) → List (List ℕ) → Type 0
HaveBundles native folder [] [] = Unit {0}
HaveBundles native folder (name ∷ names) (bundle ∷ bundles) =
    HasBundle native folder name bundle × HaveBundles native folder names bundles
HaveBundles native folder names bundles = ⊥

-- the program stops at one of the files, and those before it have bytes
pub record BreaksAt (folder : Option Folder) (names : List (List ℕ)) (name : List ℕ) : Type 0 where
  pub before : List (List ℕ)
  pub after : List (List ℕ)
  pub split : names ≡ before ++ name ∷ after
  pub texts : List (List ℕ)
  pub read : HaveBytes folder before texts

-- the program stops at one of the logs, those before which have bytes; or for want of memory
abbrev pub StopsAtLog : Option Folder → List (List ℕ) → Stop → Type 0
StopsAtLog folder logs (CannotRead name) = BreaksAt folder logs name.now
StopsAtLog folder logs OutOfMemory = Unit {0}
StopsAtLog folder logs other = ⊥

-- The exit status. It is 0 if the answer is yes or it was done, and 1 if it is no. It is 4 if what was given is refused, 5 if it was
-- done and is doubtful, and 2 or 3 if the program stopped.
abbrev pub exit_status : Result Bool Stop → ℕ
exit_status (Ok true) = 0
exit_status (Ok false) = 1
exit_status (Err stop) = status_of stop

-- one of the words behind the files of `certify`
abbrev pub asks : List ℕ → Parts → Bool
asks word p = bytes_eq p.four word || (bytes_eq p.five word || (bytes_eq p.six word || bytes_eq p.seven word))

abbrev pub asks_runc : Parts → Bool
asks_runc = asks (codes "runc")

abbrev pub asks_all : Parts → Bool
asks_all = asks (codes "all")

-- the calls that may be left aside
abbrev pub leave_of : Parts → Leave
leave_of p = record { unnamed = asks (codes "calls") p; x32 = asks (codes "without-x32") p }

-- some may be
abbrev pub asks_but : Parts → Bool
asks_but p = (leave_of p).unnamed || (leave_of p).x32

-- These commands tell something on standard error even if they were done: `adapt` and `learn` what they changed or added; `recover`,
-- `join`, `meet` and `stack` which form was written, or why none was; `certify` with `runc` what the stub answers.
abbrev pub TellsChanges : Command → Parts → Type 0
TellsChanges Certify p = asks_runc p ≡ true
TellsChanges Adapt p = Unit {0}
TellsChanges Learn p = Unit {0}
TellsChanges Recover p = Unit {0}
TellsChanges Join p = Unit {0}
TellsChanges Meet p = Unit {0}
TellsChanges Stack p = Unit {0}
TellsChanges other p = ⊥

-- `certify` also explains there the record by which its answer is no; no other command tells more of a no than of a yes
abbrev pub TellsRefusal : Command → Parts → Type 0
TellsRefusal Certify p = Unit {0}
TellsRefusal other p = TellsChanges other p

-- `json` tells what the command behind it does
abbrev pub OfInner : (Command → Parts → Type 0) → List (List ℕ) → Type 0
OfInner Is words = (inner : Given) × (command_of words ≡ Some inner) × Is inner.0 (parts_of inner.1)

abbrev pub OfAsked : (Command → Parts → Type 0) → Bool → Given → Type 0
OfAsked Is true given = OfInner Is given.1
OfAsked Is false given = Is given.0 (parts_of given.1)

abbrev pub AskedChanges : Given → Type 0
AskedChanges given = OfAsked TellsChanges (is_json given.0) given

abbrev pub AskedRefusal : Given → Type 0
AskedRefusal given = OfAsked TellsRefusal (is_json given.0) given

-- What is on standard error. If the answer is yes, it is nothing but changes. If it is no, it is these and an explanation. If the program
-- stopped, it is the line that says why.
abbrev pub Tells : {E : Type 0} → (E → Option (List ℕ)) → (E → Failures) → E → E → List (List ℕ) → Given → Result Bool Stop
    → Type 0
Tells held failures old new arguments given (Ok true) = AskedChanges given ⊎ (new ≡ old)
Tells held failures old new arguments given (Ok false) = AskedRefusal given ⊎ (new ≡ old)
Tells held failures old new arguments given (Err Refused) = AskedRefusal given ⊎ (new ≡ old)
Tells held failures old new arguments given (Err Doubtful) = AskedRefusal given ⊎ (new ≡ old)
Tells held failures old new arguments given (Err stop) = ReportsOn held failures old new arguments stop

-- a file is not read: the program stops there, and nothing is written
pub record StopsAtFile {O : Type 0} (folder : Option Folder) (old new : O) (names : List (List ℕ)) (result : Result Bool Stop)
    : Type 0 where
  pub stop : Stop
  pub at : FirstUnread folder names stop
  pub told : result ≡ Err stop
  pub unwritten : new ≡ old

-- an answer is written, and the program tells it
pub record AnswersBy (Writes : Result Bool WriteFault → Type 0) (result : Result Bool Stop) : Type 0 where
  pub answer : Result Bool WriteFault
  pub written : Writes answer
  pub told : result ≡ told_line answer

-- how the program ends, by how the command does
abbrev pub outcome_by : End → Result Bool Stop
outcome_by end.Done = Ok true
outcome_by end.Doubtful = Err Doubtful
outcome_by end.No = Ok false
outcome_by end.Refused = Err Refused

abbrev pub outcome_of : Told → Result Bool Stop
outcome_of told = outcome_by told.end

-- What is told is written, and the program ends as it says; or a call of the sink failed.
abbrev pub WritesTold : {O : Type 0} → (O → Option (List ℕ)) → (O → Failures) → O → O → Told → Result Bool Stop → Type 0
WritesTold held failures old new told (Ok done) = Wrote held failures old new told.bytes.items × (outcome_of told ≡ Ok done)
WritesTold held failures old new told (Err Refused) = Wrote held failures old new told.bytes.items × (outcome_of told ≡ Err Refused)
WritesTold held failures old new told (Err Doubtful) = Wrote held failures old new told.bytes.items × (outcome_of told ≡ Err Doubtful)
WritesTold held failures old new told (Err (Write out)) = StopsWriting held failures old new told.bytes.items out
WritesTold held failures old new told (Err other) = ⊥

-- For a big-endian machine the file is turned in memory, and written once it is whole; otherwise the filter is written at once.
module _ {O : Type 0} (held : O → Option (List ℕ)) (failures : O → Failures) (old new : O) where
  abbrev pub ExportsTurned : Arch → List ℕ → Form → Result Bool Stop → Type 0
  ExportsTurned native bundle form result =
      ((result ≡ Err OutOfMemory) × (new ≡ old))
      ⊎ ((told : Told) × TellsExported native form bundle told × TellsObjects held failures old new told.bytes.items
      (Ok (was_done told.end)) result)

  abbrev pub ExportsFor : Bool → Arch → List ℕ → Form → Result Bool Stop → Type 0
  ExportsFor true native bundle form result = ExportsTurned native bundle form result
  ExportsFor false native bundle form result = AnswersBy (Exports held failures old new native bundle form) result

  -- what `certify` writes of a bundle and a filter, by whether `runc` stands behind the files, and `all`
  abbrev pub CertifiesWith : Bool → Bool → Arch → List ℕ → List ℕ → Result Bool WriteFault → Type 0
  CertifiesWith true true native b f answer = CertifiesAllBehind held failures old new native b f answer
  CertifiesWith true false native b f answer = CertifiesBehind held failures old new native b f answer
  CertifiesWith false true native b f answer =
      Certifies held failures old new native b f answer ⊎ TellsAll held failures old new native b f answer
  CertifiesWith false false native b f answer = Certifies held failures old new native b f answer

  -- what it writes by whether calls may be left aside, which ones, and the other words
  abbrev pub CertifiesAs : Bool → Parts → Arch → List ℕ → List ℕ → Result Bool WriteFault → Type 0
  CertifiesAs true p native b f answer = CertifiesBut held failures old new native b f (leave_of p) answer
  CertifiesAs false p native b f answer = CertifiesWith (asks_runc p) (asks_all p) native b f answer

-- what the commands write that judge the bytes of files
module _ {O : Type 0} (held : O → Option (List ℕ)) (failures : O → Failures) (folder : Option Folder) (old new : O) where
  abbrev pub AnswersVerdict : List ℕ → List ℕ → Result Bool Stop → Type 0
  AnswersVerdict filter rec result =
      StopsAtFile folder old new (filter ∷ rec ∷ []) result
      ⊎ ((f : List ℕ) × (r : List ℕ) × HasBytes folder filter f × HasBytes folder rec r
      × AnswersBy (WritesAnswer held failures old new f r) result)

  -- of a certificate with more than 4,194,304 bytes, its first bytes may be judged
  abbrev pub AnswersCheck : Arch → List ℕ → List ℕ → List ℕ → Result Bool Stop → Type 0
  AnswersCheck native bundle filter cert result =
      StopsAtFile folder old new (bundle ∷ filter ∷ cert ∷ []) result
      ⊎ ((b : List ℕ) × (f : List ℕ) × (c : List ℕ) × HasBundle native folder bundle b × HasFilter native folder filter f
      × HasEnough 4194304 folder cert c × AnswersBy (WritesFinding held failures old new native b f c) result)

  abbrev pub AnswersCertify : Parts → Result Bool Stop → Type 0
  AnswersCertify p result =
      StopsAtFile folder old new (p.two ∷ p.three ∷ []) result
      ⊎ ((b : List ℕ) × (f : List ℕ) × HasBundle p.native folder p.two b × HasFilter p.native folder p.three f
      × AnswersBy (CertifiesAs held failures old new (asks_but p) p p.native b f) result)

  abbrev pub AnswersExport : Arch → List ℕ → Form → Result Bool Stop → Type 0
  AnswersExport native bundle form result =
      StopsAtFile folder old new (bundle ∷ []) result
      ⊎ ((b : List ℕ) × HasBundle native folder bundle b × ExportsFor held failures old new (is_big_endian native) native b form result)

  -- A command that tells: its files are read, and what is so of their bytes is told and written.
  abbrev pub AnswersTold : List (List ℕ) → (List (List ℕ) → Told → Type 0) → Result Bool Stop → Type 0
  AnswersTold names Is result =
      StopsAtFile folder old new names result
      ⊎ ((texts : List (List ℕ)) × (told : Told) × HaveBytes folder names texts × Is texts told
      × WritesTold held failures old new told result)

  -- what `read` tells, by whether `rules` stands behind the file
  abbrev pub AnswersRead : Bool → Parts → Result Bool Stop → Type 0
  AnswersRead true p result = AnswersTold (p.two ∷ []) (of_one (OfBundle p.native (TellsRules p.native))) result
  AnswersRead false p result = AnswersTold (p.two ∷ []) (of_one (OfBundle p.native (TellsRead p.native))) result

  -- what `compare` tells, by whether `filters` stands behind the files
  abbrev pub AnswersCompare : Bool → Parts → Result Bool Stop → Type 0
  AnswersCompare true p result =
      AnswersTold (p.two ∷ p.three ∷ []) (of_two (λ old new. IsTold p.native (read_as p.native old) (read_as p.native new))) result
  AnswersCompare false p result = AnswersTold (p.two ∷ p.three ∷ [])
      (of_two (OfBundles p.native (TellsCompared (bytes_eq p.four (codes "atmost")) p.native))) result

  -- the program stops at words that ask for nothing, and nothing is written
  abbrev pub StopsAtWords : Result Bool Stop → Type 0
  StopsAtWords result = (result ≡ Err Usage) × (new ≡ old)

  -- what `review` tells, by whether `html` stands behind two bundles, and whether behind one; something else asks for nothing
  abbrev pub AnswersReview : Bool → Bool → Parts → Result Bool Stop → Type 0
  AnswersReview true one p result =
      AnswersTold (p.two ∷ p.three ∷ []) (of_two (OfBundles p.native (TellsPages p.native p.two p.three))) result
  AnswersReview false true p result = AnswersTold (p.two ∷ []) (of_one (OfBundle p.native (TellsPage p.native p.two))) result
  AnswersReview false false p result =
      ((p.three ≡ []) × AnswersTold (p.two ∷ []) (of_one (OfBundle p.native (IsReviewed p.native))) result)
      ⊎ ((p.three ≢ []) × StopsAtWords result)

  -- the program stops at words of which one names no group that there is
  abbrev pub StopsAtGroups : List (List ℕ) → Result Bool Stop → Type 0
  StopsAtGroups words result = OneIsUnknown (groups_in words) × StopsAtWords result

  -- The profile that is made of a configuration, in the form that the words ask for, unless the others ask for nothing. The calls of the
  -- groups among them are allowed in it.
  abbrev pub AnswersAdapt : Arch → List ℕ → List (List ℕ) → Result Bool Stop → Type 0
  AnswersAdapt native config words result =
      (others : List (List ℕ)) × (as_bundle : Bool) × NamesForm words others as_bundle
      × (StopsAtGroups others result
      ⊎ ((AskNothing (others_in others) × StopsAtWords result)
      ⊎ AnswersTold (config ∷ [])
      (of_one (λ text. WritesMade native as_bundle
      (WithGroups native (groups_in others) (OfArguments (IsMadeAs native text) (others_in others))))) result))

  -- what a bundle says of the calls of logs
  abbrev pub AnswersReplay : Arch → List ℕ → List (List ℕ) → Result Bool Stop → Type 0
  AnswersReplay native bundle words result =
      (logs : List (List ℕ)) × (unused : Bool) × NamesLogs words logs unused
      × AnswersTold (bundle ∷ logs) (IsReplayed native unused logs) result

  -- What `learn` writes of logs. It writes nothing if it stops at one. Or it writes what is told of their bytes, which is the profile if it
  -- was done.
  abbrev pub AnswersLogs : Arch → Bool → List (List ℕ) → List (List ℕ) → Option Runtime → Otherwise → Result Bool Stop → Type 0
  AnswersLogs native as_bundle groups logs runtime otherwise result =
      ((stop : Stop) × StopsAtLog folder logs stop × (result ≡ Err stop) × (new ≡ old))
      ⊎ ((texts : List (List ℕ)) × (told : Told) × HaveBytes folder logs texts
      × WritesMade native as_bundle (WithGroups native groups (TellsLearned native texts runtime otherwise)) told
      × WritesTold held failures old new told result)

  -- memory is refused before the words are read
  abbrev pub StopsForMemory : Result Bool Stop → Type 0
  StopsForMemory result = (result ≡ Err OutOfMemory) × (new ≡ old)

  -- what is learned from the logs that the words name, for the runtime and with the default that they name
  abbrev pub AnswersNamed : Arch → Bool → List (List ℕ) → List (List ℕ) → Result Bool Stop → Type 0
  AnswersNamed native as_bundle groups words result =
      StopsAtWords result
      ⊎ (StopsForMemory result
      ⊎ ((logs : List (List ℕ)) × (runtime : Option Runtime) × (otherwise : Otherwise) × AskFor words logs runtime otherwise
      × AnswersLogs native as_bundle groups logs runtime otherwise result))

  -- What it writes of a profile and logs: nothing where it stops at one of the files; or what is told of their bytes.
  abbrev pub AnswersBoth : Arch → Bool → List (List ℕ) → List ℕ → List (List ℕ) → Option Runtime → Otherwise → Result Bool Stop → Type 0
  AnswersBoth native as_bundle groups profile logs runtime otherwise result =
      ((stop : Stop) × (StopsAt folder profile stop ⊎ StopsAtLog folder logs stop) × (result ≡ Err stop) × (new ≡ old))
      ⊎ ((file : List ℕ) × (texts : List (List ℕ)) × (told : Told) × HasBytes folder profile file × HaveBytes folder logs texts
      × WritesMade native as_bundle (WithGroups native groups (TellsWidened native file texts runtime otherwise)) told
      × WritesTold held failures old new told result)

  -- the same of the logs that the words behind the profile name
  abbrev pub AnswersWidened : Arch → Bool → List (List ℕ) → List ℕ → List (List ℕ) → Result Bool Stop → Type 0
  AnswersWidened native as_bundle groups profile words result =
      StopsAtWords result
      ⊎ (StopsForMemory result
      ⊎ ((logs : List (List ℕ)) × (runtime : Option Runtime) × (otherwise : Otherwise) × AskFor words logs runtime otherwise
      × AnswersBoth native as_bundle groups profile logs runtime (rest_of words otherwise) result))

  -- what is learned by words: with a profile behind `from` from both, and else from logs alone
  abbrev pub AnswersFrom : Arch → Bool → List (List ℕ) → Option (List ℕ × List (List ℕ)) → List (List ℕ) → Result Bool Stop → Type 0
  AnswersFrom native as_bundle groups (Some from) words result = AnswersWidened native as_bundle groups from.0 from.1 result
  AnswersFrom native as_bundle groups None words result = AnswersNamed native as_bundle groups words result

  -- the same in the form that the words ask for, with the calls of the groups among them
  abbrev pub AnswersLearn : Arch → List (List ℕ) → Result Bool Stop → Type 0
  AnswersLearn native words result =
      (others : List (List ℕ)) × (as_bundle : Bool) × NamesForm words others as_bundle
      × (StopsAtGroups others result
      ⊎ (StopsForMemory result
      ⊎ AnswersFrom native as_bundle (groups_in others) (from_in (others_in others)) (others_in others) result))

  -- the profile that a filter means, in the form that the words ask for, and for the calls for which they do
  abbrev pub AnswersRecovered : Arch → List (List ℕ) → List ℕ → Result Bool Stop → Type 0
  AnswersRecovered native words filter result =
      AnswersTold (filter ∷ [])
      (of_one (λ file. WritesMade native (has_word (codes "bundle") words) (TellsAsked native words (read_as native file)))) result

  -- the profile that bundles mean together, in the form that the words ask for
  abbrev pub AnswersCombined : Arch → Way → List (List ℕ) → Result Bool Stop → Type 0
  AnswersCombined native way words result =
      (bundles : List (List ℕ)) × (as_bundle : Bool) × NamesForm words bundles as_bundle
      × AnswersTold bundles (λ texts. WritesMade native as_bundle (OfEach native (TellsCombined native way) texts)) result

  -- the one that filters mean together
  abbrev pub AnswersStack : Arch → List (List ℕ) → Result Bool Stop → Type 0
  AnswersStack native words result =
      (filters : List (List ℕ)) × (as_bundle : Bool) × NamesForm words filters as_bundle
      × AnswersTold filters (λ files. WritesMade native as_bundle (TellsStack native (map (read_as native) files))) result

  -- the commands, or the page of one
  abbrev pub AnswersManual : Option (List ℕ) → Result Bool Stop → Type 0
  AnswersManual name result = (IsNoCommand name × StopsAtWords result) ⊎ AnswersTold [] (of_none (IsManual name)) result

-- the call that `explain` is asked about whatever its arguments are
abbrev pub any_call : List (List ℕ) → Option (List ℕ)
any_call (what ∷ last ∷ []) = if bytes_eq last (codes "any") then Some what else None
any_call call = None

-- what `explain` tells: what the bundle says of one call, or of a call whatever its arguments are
abbrev pub explained_as : Arch → List (List ℕ) → Option (List ℕ) → List ℕ → Told → Type 0
explained_as native call (Some what) bundle told = IsExplainedAny native bundle what told
explained_as native call None bundle told = OfArguments (IsExplained native bundle) call told

-- the call that `explain` is asked about stands for the lines of a kernel's log, which are read
abbrev pub asks_audit : List (List ℕ) → Bool
asks_audit (word ∷ []) = bytes_eq word (codes "audit")
asks_audit call = false

-- What the program does as a command. `run` reads its input, and so does `explain` where it is asked about a kernel's log.
module _ {I O : Type 0} (left : I → Option (List ℕ)) (given : I → Failures) (held : O → Option (List ℕ)) (taken : O → Failures)
    (folder : Option Folder) (input input' : I) (out out' : O) where
  abbrev pub AnswersRun : Arch → List (List ℕ) → Result Bool Stop → Type 0
  AnswersRun native bundles result =
      ((input' ≡ input) × StopsAtFile folder out out' bundles result)
      ⊎ ((texts : List (List ℕ)) × HaveBundles native folder bundles texts
      × RunsBundles left given held taken input input' out out' native texts result)

  -- the input is not read to its end, and nothing is written
  pub record StopsAtInput (result : Result Bool Stop) : Type 0 where
    pub stop : Stop
    pub at : StopsInput (given input) (given input') stop
    pub told : result ≡ Err stop
    pub unwritten : out' ≡ out

  -- what is told of a kernel's log: the bundle is read, and then the input to its end, which has the lines
  abbrev pub AnswersAudit : Parts → Result Bool Stop → Type 0
  AnswersAudit p result =
      ((input' ≡ input) × StopsAtFile folder out out' (p.two ∷ []) result)
      ⊎ (StopsAtInput result
      ⊎ ((lines : List ℕ) × GivesAll (left input) (left input') lines
      × AnswersTold held taken folder out out' (p.two ∷ [])
      (of_one (OfBundle p.native (λ bundle. IsAudited p.native bundle lines))) result))

  abbrev pub AnswersExplain : Parts → Result Bool Stop → Type 0
  AnswersExplain p result =
      ((asks_audit p.from_three ≡ true) × AnswersAudit p result)
      ⊎ ((input' ≡ input) × AnswersTold held taken folder out out' (p.two ∷ [])
      (of_one (OfBundle p.native (explained_as p.native p.from_three (any_call p.from_three)))) result)

  -- what a command does, with its parts in the order of its row
  abbrev pub DoesWith : Command → Parts → Result Bool Stop → Type 0
  DoesWith Verdict p result = (input' ≡ input) × AnswersVerdict held taken folder out out' p.one p.two result
  DoesWith Check p result = (input' ≡ input) × AnswersCheck held taken folder out out' p.native p.two p.three p.four result
  DoesWith Certify p result = (input' ≡ input) × AnswersCertify held taken folder out out' p result
  DoesWith Export p result = (input' ≡ input) × AnswersExport held taken folder out out' p.native p.two (form_of p.three) result
  DoesWith Run p result = AnswersRun p.native p.from_two result
  DoesWith Explain p result = AnswersExplain p result
  DoesWith Record p result =
      (input' ≡ input) × AnswersTold held taken folder out out' [] (of_none (OfArguments (IsRecorded p.native) p.from_two)) result
  DoesWith Assemble p result = (input' ≡ input) × AnswersTold held taken folder out out' (p.one ∷ []) (of_one IsAssembled) result
  DoesWith Read p result = (input' ≡ input) × AnswersRead held taken folder out out' (bytes_eq p.three (codes "rules")) p result
  DoesWith Annotate p result =
      (input' ≡ input) × AnswersTold held taken folder out out' (p.two ∷ []) (of_one (λ file. TellsFilter (read_as p.native file))) result
  DoesWith Draw p result =
      (input' ≡ input) × AnswersTold held taken folder out out' (p.two ∷ []) (of_one (λ file. IsDrawn (read_as p.native file))) result
  DoesWith Lint p result =
      (input' ≡ input) × AnswersTold held taken folder out out' (p.two ∷ []) (of_one (OfBundle p.native (TellsLinted p.native))) result
  DoesWith Compare p result = (input' ≡ input) × AnswersCompare held taken folder out out' (bytes_eq p.four (codes "filters")) p result
  DoesWith Adapt p result = (input' ≡ input) × AnswersAdapt held taken folder out out' p.native p.two p.from_three result
  DoesWith Learn p result = (input' ≡ input) × AnswersLearn held taken folder out out' p.native p.from_two result
  DoesWith Replay p result = (input' ≡ input) × AnswersReplay held taken folder out out' p.native p.two p.from_three result
  DoesWith Recover p result = (input' ≡ input) × AnswersRecovered held taken folder out out' p.native p.from_three p.two result
  DoesWith Join p result = (input' ≡ input) × AnswersCombined held taken folder out out' p.native Laxest p.from_two result
  DoesWith Meet p result = (input' ≡ input) × AnswersCombined held taken folder out out' p.native Strictest p.from_two result
  DoesWith Stack p result = (input' ≡ input) × AnswersStack held taken folder out out' p.native p.from_two result
  DoesWith Flatten p result = (input' ≡ input) × AnswersTold held taken folder out out' p.from_two (TellsFlat p.native) result
  DoesWith Review p result =
      (input' ≡ input)
      × AnswersReview held taken folder out out' (bytes_eq p.four (codes "html")) (bytes_eq p.three (codes "html")) p result
  DoesWith Json p result = (input' ≡ input) × StopsAtWords held taken folder out out' result
  DoesWith Manual p result = (input' ≡ input) × AnswersManual held taken folder out out' p.first result
  DoesWith Version p result = (input' ≡ input) × AnswersTold held taken folder out out' [] (of_none IsVersion) result

  -- memory is refused before the command is begun
  pub record IsNotBegun (result : Result Bool Stop) : Type 0 where
    pub stops : result ≡ Err OutOfMemory
    pub unread : input' ≡ input
    pub unwritten : out' ≡ out

-- What `json` does as the command behind it, whose answer is kept: it writes the objects of this answer.
module _ {I O : Type 0} (left : I → Option (List ℕ)) (given : I → Failures) (held : O → Option (List ℕ)) (taken : O → Failures)
    (folder : Option Folder) (input input' : I) (out out' : O) where
  pub record AnswersObjects (inner : Given) (name : List ℕ) (result : Result Bool Stop) : Type 0 where
    pub outcome : Result Bool Stop
    pub before : Kept
    pub answer : Kept
    pub empty : before.writer.items ≡ []
    pub does : DoesWith left given kept kept_failures folder input input' before answer inner.0 (parts_of inner.1) outcome
    pub writes : WritesObjects held taken out out' inner.0 name answer.writer.items outcome result

  -- the program stops since what stands behind `json` is no command
  pub record StopsBefore (result : Result Bool Stop) : Type 0 where
    pub stops : result ≡ Err Usage
    pub unread : input' ≡ input
    pub unwritten : out' ≡ out

  -- the same of arguments, wherever they lie in memory
  pub record DoesObjects (words : List (List ℕ)) (result : Result Bool Stop) : Type 0 where
    pub lying : List (Bor (List ℕ))
    pub same : texts lying ≡ words
    pub of_command : (inner : Given) → IsCommandLine lying inner
        → IsNotBegun left given held taken folder input input' out out' result ⊎ AnswersObjects inner (part 0 words) result
    pub of_none : NoCommandLine lying → IsNotBegun left given held taken folder input input' out out' result ⊎ StopsBefore result

  abbrev pub DoesAsked : Bool → Given → Result Bool Stop → Type 0
  DoesAsked true asked result = DoesObjects asked.1 result
  DoesAsked false asked result = DoesWith left given held taken folder input input' out out' asked.0 (parts_of asked.1) result

  abbrev pub Does : Given → Result Bool Stop → Type 0
  Does asked result = IsNotBegun left given held taken folder input input' out out' result ⊎ DoesAsked (is_json asked.0) asked result

-- What `certify` tells on standard error of a bundle and a filter, if it is done, by whether `runc` stands behind the files, and `all`. With
-- `runc` it is the same whatever the answer is. Else it is nothing if the answer is yes. If it is no, there is nothing on standard error, or
-- standard output has the line of a call record, and standard error has an explanation of this very record.
module _ {O E : Type 0} (held : O → Option (List ℕ)) (taken : O → Failures) (shown : E → Option (List ℕ)) (dropped : E → Failures)
    (out out' : O) (err err' : E) where
  abbrev pub ExplainsWith : Bool → Bool → Arch → List ℕ → List ℕ → Bool → Type 0
  ExplainsWith true true native b f done = TellsAllBehind held taken out out' shown dropped err err' native b f (Ok done)
  ExplainsWith true false native b f done = TellsBehind held taken out out' shown dropped err err' native b f (Ok done)
  ExplainsWith false true native b f done = Unit {0}
  ExplainsWith false false native b f true = Unit {0}
  ExplainsWith false false native b f false = (err' ≡ err) ⊎ TellsRecord held taken out out' shown dropped err err' native b

  -- nothing is said of what is explained where calls may be left aside
  abbrev pub ExplainsAs : Bool → Parts → Arch → List ℕ → List ℕ → Bool → Type 0
  ExplainsAs true p native b f done = Unit {0}
  ExplainsAs false p native b f done = ExplainsWith (asks_runc p) (asks_all p) native b f done

module _ {O E : Type 0} (held : O → Option (List ℕ)) (taken : O → Failures) (shown : E → Option (List ℕ)) (dropped : E → Failures)
    (folder : Option Folder) (out out' : O) (err err' : E) where
  -- of the files
  abbrev pub ExplainsCertify : Parts → Result Bool Stop → Type 0
  ExplainsCertify p (Ok done) =
      (b : List ℕ) × (f : List ℕ) × HasBundle p.native folder p.two b × HasFilter p.native folder p.three f
      × ExplainsAs held taken shown dropped out out' err err' (asks_but p) p p.native b f done
  ExplainsCertify p (Err stop) = Unit {0}

  abbrev pub ExplainsBy : Command → Parts → Result Bool Stop → Type 0
  ExplainsBy Certify p result = ExplainsCertify p result
  ExplainsBy other p result = Unit {0}

  -- where the program stops, nothing is explained
  abbrev pub ExplainsWhy : Command → Parts → Result Bool Stop → Type 0
  ExplainsWhy command p (Ok done) = ExplainsBy command p (Ok done)
  ExplainsWhy command p (Err stop) = Unit {0}

-- The program did what a command asks for. This is its outcome, as the exit status and standard error tell it. Behind a no or a refusal are
-- lines on files that are no bundles.
pub record Answers {I O E : Type 0} (left : I → Option (List ℕ)) (given : I → Failures) (held : O → Option (List ℕ))
    (taken : O → Failures) (shown : E → Option (List ℕ)) (dropped : E → Failures) (folder : Option Folder)
    (input input' : I) (out out' : O) (err err' : E) (arguments : List (List ℕ)) (command : Given) (status : ℕ) : Type 0 where
  pub outcome : Result Bool Stop
  pub does : Does left given held taken folder input input' out out' command outcome
  pub ends : status ≡ exit_status outcome
  pub between : E
  pub tells : Tells shown dropped err between arguments command outcome
  pub explained : ExplainsWhy held taken shown dropped folder out out' err between command.0 (parts_of command.1) outcome
  pub remarks : RemarksBy shown dropped command outcome between err'

-- the program stops at arguments that are no command: since they are none, or for want of memory
abbrev pub IsMisuse : Result Bool Stop → Type 0
IsMisuse (Err Usage) = Unit {0}
IsMisuse (Err OutOfMemory) = Unit {0}
IsMisuse other = ⊥

-- it ends as a fault of the command line, or of memory, and standard error says so
abbrev pub TellsMisuse : {E : Type 0} → (E → Option (List ℕ)) → (E → Failures) → E → E → List (List ℕ) → ℕ → Type 0
TellsMisuse held failures old new arguments status =
    ((status ≡ 2) × ReportsOn held failures old new arguments Usage)
    ⊎ ((status ≡ 3) × ReportsOn held failures old new arguments OutOfMemory)
