-- What `ccell run` reads and writes.
use Rattle.std.specs.Prelude.{ℕ, ◌≡◌, ◌+◌, ◌⊎◌, Bool, true, false, List, [], ◌∷◌, ◌++◌, Option, Result, Ok, Err, IfOk, codes}
use Rattle.std.specs.Fmt.{decimal}
use Rattle.std.specs.List.{All}
use Rattle.machines.specs.declared.arch.Arch.{Arch}
use Rattle.cert_check.specs.declared.checked.Checked.{Checked}
use Rattle.texts.specs.Failures.{Failures}
use Rattle.texts.specs.Sink.{WritesMade}
use Rattle.texts.specs.declared.streams.fault.WriteFault.{WriteFault}
use Rattle.session.specs.declared.bundles.Bundle.{Bundle}
use Rattle.session.specs.declared.bundles.Bundles.{Bundles}
use Rattle.session.specs.declared.fault.ScriptFault.{ScriptFault}
use Rattle.session.specs.declared.fault.ScriptFault.TheVariants.{Read, Write, Memory}
use Rattle.session.specs.Scripts.{IsAnswered, StopsForMemory, StopsReading, StopsWriting, TellsFailedRead, TellsFailedWrite}
use Rattle.maker.specs.declared.make_error.MakeError.{MakeError}
use Rattle.cli.specs.declared.stops.Stop.{Stop}
use Rattle.cli.specs.declared.stops.Stop.TheVariants as stop
use Rattle.maker.specs.Exported.{IsCheckedOf, IsMakeError, line_of}
use Rattle.cli.specs.Stop.{stop_at_fault, stop_at_script}

-- each of one list stands beside that of another at its place, both numbered from i on
abbrev pub InTurn : {X Y : Type 0} → (ℕ → X → Y → Type 0) → ℕ → List X → List Y → Type 0
InTurn R i [] [] = Unit {0}
InTurn R i (x ∷ xs) (y ∷ ys) = R i x y × InTurn R (i + 1) xs ys
InTurn R i xs ys = ⊥

-- what a script calls a bundle, by its number: b1, b2 and so on
abbrev pub name_of : ℕ → List ℕ
name_of i = codes "b" ++ decimal i

-- the checked filter of this text, under the name of its number
abbrev pub IsBundleOf : Arch → ℕ → List ℕ → Bundle → Type 0
IsBundleOf native i text b = (b.name.now ≡ name_of i) × IsCheckedOf native text b.checked

-- the bundles of a script are those of these texts, in order
pub record AreBundlesOf (native : Arch) (texts : List (List ℕ)) (bundles : Bundles) : Type 0 where
  pub native_is : bundles.native ≡ native
  pub each : InTurn (IsBundleOf native) 1 texts bundles.list.now

-- a text has a checked filter
abbrev pub HasChecked : Arch → List ℕ → Type 0
HasChecked native text = (c : Checked) × IsCheckedOf native text c

-- why the first text without a checked filter has none
pub record FirstMakeError (native : Arch) (texts : List (List ℕ)) (make_error : MakeError) : Type 0 where
  pub before : List (List ℕ)
  pub text : List ℕ
  pub after : List (List ℕ)
  pub split : texts ≡ before ++ text ∷ after
  pub ready : All (HasChecked native) before
  pub is : IsMakeError native text make_error

-- what was read and written of a script, by what is told of it
abbrev pub Runs : {I O T : Type 0} → (I → Option (List ℕ)) → (O → Option (List ℕ)) → I → I → O → O → Bundles → Result T ScriptFault → Type 0
Runs left held source source' sink sink' bundles (Ok x) = IsAnswered bundles (left source) (left source') (held sink) (held sink')
Runs left held source source' sink sink' bundles (Err (Read line)) = StopsReading bundles (left source) (left source') (held sink)
    (held sink') line
Runs left held source source' sink sink' bundles (Err (Write out)) = StopsWriting bundles (left source) (left source') (held sink)
    (held sink') out
Runs left held source source' sink sink' bundles (Err (Memory line)) =
    StopsForMemory bundles (left source) (left source') (held sink) (held sink') line
    ⊎ ((line ≡ 0) × (source' ≡ source) × (sink' ≡ sink))

-- how the program tells what became of a script, and of a line
abbrev pub told_script : {T : Type 0} → Result T ScriptFault → Result Bool Stop
told_script (Ok x) = Ok true
told_script (Err fault) = Err (stop_at_script fault)

abbrev pub told_line : Result Bool WriteFault → Result Bool Stop
told_line (Ok done) = Ok done
told_line (Err fault) = Err (stop_at_fault fault)

-- The script was run with the bundles of these texts. A call that failed is told, and no other failed.
pub record AnswersScript {I O : Type 0} (left : I → Option (List ℕ)) (given : I → Failures) (held : O → Option (List ℕ))
    (taken : O → Failures)
    (source source' : I) (sink sink' : O) (native : Arch) (texts : List (List ℕ)) (result : Result Bool Stop) : Type 0 where
  pub bundles : Bundles
  pub are : AreBundlesOf native texts bundles
  pub outcome : Result (Unit {0}) ScriptFault
  pub runs : Runs left held source source' sink sink' bundles outcome
  pub failed_read : TellsFailedRead (given source) (given source') outcome
  pub failed_write : TellsFailedWrite (taken sink) (taken sink') outcome
  pub told : result ≡ told_script outcome

-- nothing was read, and what was written is the line of the first text that has no checked filter
pub record RefusesScript {I O : Type 0} (held : O → Option (List ℕ)) (taken : O → Failures)
    (source source' : I) (sink sink' : O) (native : Arch) (texts : List (List ℕ)) (result : Result Bool Stop) : Type 0 where
  pub make_error : MakeError
  pub is : FirstMakeError native texts make_error
  pub unread : source' ≡ source
  pub outcome : Result Bool WriteFault
  pub written : WritesMade held taken sink sink' (line_of make_error) outcome
  pub answer : IfOk outcome (λ done. done ≡ false)
  pub told : result ≡ told_line outcome

-- The script was read to its end and answered, with the bundles of these texts. Of the source and of the sink stand the bytes
-- before and after, where they are known.
pub record HasAnswered (native : Arch) (texts : List (List ℕ)) (left left' held held' : Option (List ℕ)) : Type 0 where
  pub bundles : Bundles
  pub are : AreBundlesOf native texts bundles
  pub answered : IsAnswered bundles left left' held held'

-- memory was refused, and nothing was read or written
pub record BeginsNoScript {I O : Type 0} (source source' : I) (sink sink' : O) (result : Result Bool Stop) : Type 0 where
  pub unread : source' ≡ source
  pub unwritten : sink' ≡ sink
  pub told : result ≡ Err stop.OutOfMemory

-- what `ccell run` does with the texts of bundles
abbrev pub RunsBundles : {I O : Type 0} → (I → Option (List ℕ)) → (I → Failures) → (O → Option (List ℕ)) → (O → Failures)
    → I → I → O → O → Arch → List (List ℕ) → Result Bool Stop → Type 0
RunsBundles left given held taken source source' sink sink' native texts result =
    AnswersScript left given held taken source source' sink sink' native texts result
    ⊎ (RefusesScript held taken source source' sink sink' native texts result ⊎ BeginsNoScript source source' sink sink' result)

-- the script was run with the bundles of the texts, or memory was refused first
abbrev pub RunsScript : {I O : Type 0} → (I → Option (List ℕ)) → (I → Failures) → (O → Option (List ℕ)) → (O → Failures)
    → I → I → O → O → Arch → List (List ℕ) → Result Bool Stop → Type 0
RunsScript left given held taken source source' sink sink' native texts result =
    AnswersScript left given held taken source source' sink sink' native texts result ⊎ BeginsNoScript source source' sink sink' result
