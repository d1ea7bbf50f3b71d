-- All calls that are found of which a filter gives another verdict than a bundle says.
use Rattle.std.specs.Prelude.{ℕ, ◌≡◌, ◌⊎◌, Bool, false, List, [], ◌∷◌, ◌++◌, Option, Result, IfOk}
use Rattle.std.specs.List.{All}
use Rattle.call_record.specs.Record.{words}
use Rattle.machines.specs.declared.arch.Arch.{Arch}
use Rattle.maker.specs.declared.evidence.evidence.Counterexample.{Counterexample}
use Rattle.maker.specs.declared.evidence.evidence.Evidence.TheVariants.{Refuting}
use Rattle.maker.specs.Certified.{IsEvidenceFor}
use Rattle.maker.specs.Exported.{LacksMemory}
use Rattle.maker.specs.Told.{IsLine}
use Rattle.texts.specs.Failures.{Failures}
use Rattle.texts.specs.Sink.{WritesMade}
use Rattle.texts.specs.declared.streams.fault.WriteFault.{WriteFault}

-- the filter gives its record the one verdict, and the bundle says the other
abbrev pub Refutes : Arch → List ℕ → List ℕ → Counterexample → Type 0
Refutes native bundle filter found = IsEvidenceFor native bundle filter (Refuting found)

abbrev pub AllRefute : Arch → List ℕ → List ℕ → List Counterexample → Type 0
AllRefute native bundle filter all = All (Refutes native bundle filter) all

-- the text tells each by its line, in order
abbrev pub AreLines : List Counterexample → List ℕ → Type 0
AreLines [] text = text ≡ []
AreLines (found ∷ more) text =
    (line : List ℕ) × (rest : List ℕ) × IsLine (words found.call) found.given found.said line × AreLines more rest × (text ≡ line ++ rest)

-- What was found of a filter: the record that was found first, and then further ones. Each refutes it.
pub record AreFound (native : Arch) (bundle filter : List ℕ) (found : Counterexample) (all : List Counterexample) : Type 0 where
  pub further : List Counterexample
  pub first : all ≡ found ∷ further
  pub refute : AllRefute native bundle filter all

-- what was written are the lines of these records, all of them in order, and the answer is false
pub record WritesLines {S : Type 0} (held : S → Option (List ℕ)) (failures : S → Failures) (old new : S) (all : List Counterexample)
    (result : Result Bool WriteFault) : Type 0 where
  pub text : List ℕ
  pub lines : AreLines all text
  pub written : WritesMade held failures old new text result
  pub told : IfOk result (λ done. done ≡ false)

-- what was written are the lines of records that were found, one at least
pub record WritesCounterexamples {S : Type 0} (held : S → Option (List ℕ)) (failures : S → Failures) (old new : S) (native : Arch)
    (bundle filter : List ℕ) (result : Result Bool WriteFault) : Type 0 where
  pub found : Counterexample
  pub all : List Counterexample
  pub are : AreFound native bundle filter found all
  pub written : WritesLines held failures old new all result

abbrev pub TellsAll : {S : Type 0} → (S → Option (List ℕ)) → (S → Failures) → S → S → Arch → List ℕ → List ℕ
    → Result Bool WriteFault → Type 0
TellsAll held failures old new native bundle filter result =
    WritesCounterexamples held failures old new native bundle filter result ⊎ LacksMemory old new result
