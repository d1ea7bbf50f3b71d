-- What commands tell of the texts of files, and of none.
use Rattle.std.specs.Prelude.{ℕ, ◌≡◌, ◌≢◌, ◌⊎◌, Bool, true, false, List, [], ◌∷◌, ◌++◌, map, codes, Option, Some, None}
use Rattle.std.specs.List.{zip}
use denote.Ref.{Bor}
use Rattle.machines.specs.declared.arch.Arch.{Arch}
use Rattle.section.specs.Texts.{IsBundleText}
use Rattle.command_line.specs.Lines.{row_called}
use Rattle.command_line.specs.Manual.{IsPage, list_of}
use Rattle.command_line.specs.Table.{rows}
use Rattle.wording.specs.Told.{TellsText}
use Rattle.wording.specs.declared.told.End.TheVariants.{Done}
use Rattle.show.specs.Shown.{IsAnnotated, IsCosted}
use Rattle.wording.specs.declared.told.Told.{Told}
use Rattle.strace_logs.specs.Replayed.{TellsReplayed}

-- what is so of the text of one file, of two, and of none
abbrev pub of_one : (List ℕ → Told → Type 0) → List (List ℕ) → Told → Type 0
of_one Is (text ∷ []) told = Is text told
of_one Is texts told = ⊥

abbrev pub of_two : (List ℕ → List ℕ → Told → Type 0) → List (List ℕ) → Told → Type 0
of_two Is (first ∷ second ∷ []) told = Is first second told
of_two Is texts told = ⊥

-- so of the bundle as which the text of a file is taken, and of those of two files
pub record OfBundle (native : Arch) (Is : List ℕ → Told → Type 0) (text : List ℕ) (told : Told) : Type 0 where
  pub bundle : List ℕ
  pub taken : IsBundleText native text bundle
  pub is : Is bundle told

abbrev pub OfBundles : Arch → (List ℕ → List ℕ → Told → Type 0) → List ℕ → List ℕ → Told → Type 0
OfBundles native Is first second told = OfBundle native (λ old. OfBundle native (Is old) second) first told

-- the texts of files are taken as these bundles
abbrev pub AreTakenAs : Arch → List (List ℕ) → List (List ℕ) → Type 0
AreTakenAs native [] [] = Unit {0}
AreTakenAs native (text ∷ texts) (bundle ∷ bundles) = IsBundleText native text bundle × AreTakenAs native texts bundles
AreTakenAs native texts bundles = ⊥

-- so of the bundles as which the texts of files are taken
pub record OfEach (native : Arch) (Is : List (List ℕ) → Told → Type 0) (texts : List (List ℕ)) (told : Told) : Type 0 where
  pub bundles : List (List ℕ)
  pub taken : AreTakenAs native texts bundles
  pub is : Is bundles told

abbrev pub of_none : (Told → Type 0) → List (List ℕ) → Told → Type 0
of_none Is [] told = Is told
of_none Is texts told = ⊥

-- the arguments, wherever they lie in memory
pub record OfArguments (Is : List (Bor (List ℕ)) → Told → Type 0) (arguments : List (List ℕ)) (told : Told) : Type 0 where
  pub lying : List (Bor (List ℕ))
  pub same : map (λ a. a.now) lying ≡ arguments
  pub is : Is lying told

-- a filter as a listing, or as what it costs
abbrev pub TellsFilter : List ℕ → Told → Type 0
TellsFilter filter told = IsAnnotated filter told ⊎ IsCosted filter told

-- it was done: the list of commands, or the page of the one of that name
abbrev pub IsManual : Option (List ℕ) → Told → Type 0
IsManual None told = TellsText (list_of rows) told
IsManual (Some name) told = IsPage (row_called name rows) (Some told.bytes.items) × (told.end ≡ Done)

-- there is no command of that name
abbrev pub IsNoCommand : Option (List ℕ) → Type 0
IsNoCommand None = ⊥
IsNoCommand (Some name) = row_called name rows ≡ None

-- `unused` stands behind the names of logs, one at least
pub record AskUnused (words logs : List (List ℕ)) : Type 0 where
  pub split : words ≡ logs ++ codes "unused" ∷ []
  pub some : logs ≢ []

-- `unused` stands behind the names of logs; or else all words are such names
abbrev pub NamesLogs : List (List ℕ) → List (List ℕ) → Bool → Type 0
NamesLogs words logs true = AskUnused words logs
NamesLogs words logs false = (words ≡ logs) × ((others : List (List ℕ)) → ¬ AskUnused words others)

-- what is told of the logs of these names, played through the bundle as which the first text is taken
abbrev pub IsReplayed : Arch → Bool → List (List ℕ) → List (List ℕ) → Told → Type 0
IsReplayed native unused names (text ∷ texts) told =
    OfBundle native (λ bundle. TellsReplayed native unused bundle (zip names texts)) text told
IsReplayed native unused names [] told = ⊥
