-- What stands on standard error beside a call record that `ccell certify` tells.
use Rattle.std.specs.Prelude.{ℕ, ◌≡◌, ◌⊎◌, ◌-◌, ⊤, Bool, List, [], ◌∷◌, length, Option, Result, Ok, Err}
use Rattle.call_record.specs.declared.layout.Record.{Record}
use Rattle.call_record.specs.Record.{words}
use Rattle.machines.specs.declared.arch.Arch.{Arch}
use Rattle.machines.specs.Arch.{family_of}
use Rattle.compare.specs.Behind.{AreFoundBehind, IsBehind, WritesBehind}
use Rattle.compare.specs.Counterexamples.{WritesLines}
use Rattle.compare.specs.StubTold.{stub_text}
use Rattle.maker.specs.evidence.Counterexample.{IsCertificate}
use Rattle.maker.specs.declared.evidence.evidence.Counterexample.{Counterexample}
use Rattle.maker.specs.declared.evidence.evidence.Evidence.{Evidence}
use Rattle.maker.specs.declared.evidence.evidence.Evidence.TheVariants.{Refuting}
use Rattle.explain.specs.Explanation.{Explains}
use Rattle.maker.specs.Told.{IsLine}
use Rattle.maker.specs.declared.make_error.MakeError.{MakeError}
use Rattle.compare.specs.declared.behind_runc.stub.calls.Calls.{Calls}
use Rattle.texts.specs.Failures.{Failures}
use Rattle.texts.specs.Sink.{Writes, Wrote}
use Rattle.texts.specs.declared.streams.fault.WriteFault.{WriteFault}

-- bytes were written, as far as the sink took them
pub record WritesSome {E : Type 0} (shown : E → Option (List ℕ)) (dropped : E → Failures) (err err' : E) (bytes : List ℕ) : Type 0 where
  pub answer : Result (Unit {0}) WriteFault
  pub written : Writes shown dropped err err' bytes answer

-- a text that explains what the bundle says of the record was written, as far as the sink took it
pub record WritesWhy {E : Type 0} (shown : E → Option (List ℕ)) (dropped : E → Failures) (err err' : E) (native : Arch)
    (bundle : List ℕ) (call : Record) : Type 0 where
  pub text : List ℕ
  pub explains : Explains native bundle call text
  pub written : WritesSome shown dropped err err' text

-- or nothing was
abbrev pub MayTellWhy : {E : Type 0} → (E → Option (List ℕ)) → (E → Failures) → E → E → Arch → List ℕ → Record → Type 0
MayTellWhy shown dropped err err' native bundle call = (err' ≡ err) ⊎ WritesWhy shown dropped err err' native bundle call

-- no record was found: a certificate, or the reason why there is neither
abbrev pub HasNoRecord : Result Evidence MakeError → Type 0
HasNoRecord (Ok evidence) = IsCertificate evidence
HasNoRecord (Err make_error) = ⊤

-- the line of a record was written, and on standard error an explanation of this very record, or nothing
pub record TellsRecord {O E : Type 0} (held : O → Option (List ℕ)) (failures : O → Failures) (out out' : O)
    (shown : E → Option (List ℕ)) (dropped : E → Failures) (err err' : E) (native : Arch) (bundle : List ℕ) : Type 0 where
  pub call : Record
  pub given : ℕ
  pub said : ℕ
  pub line : List ℕ
  pub is : IsLine (words call) given said line
  pub written : Wrote held failures out out' line
  pub why : MayTellWhy shown dropped err err' native bundle call

-- The calls that a stub of the filter answers were reported, as far as the sink took the text. So was whether the whole filter was judged.
abbrev pub TellsStub : {E : Type 0} → (E → Option (List ℕ)) → (E → Failures) → E → E → Arch → List ℕ → List ℕ → List Calls → Bool
    → Type 0
TellsStub shown dropped err err' native filter rest answered whole =
    WritesSome shown dropped err err' (stub_text (family_of native) (length filter - length rest) answered whole)

-- What was written of a filter behind a stub. On standard error are the calls that this very stub answers, and whether what was written
-- is of the whole filter. Behind them is nothing, or an explanation of the very record whose line was written.
pub record TellsBehind {O E : Type 0} (held : O → Option (List ℕ)) (failures : O → Failures) (out out' : O)
    (shown : E → Option (List ℕ)) (dropped : E → Failures) (err err' : E) (native : Arch) (bundle filter : List ℕ)
    (result : Result Bool WriteFault) : Type 0 where
  pub rest : List ℕ
  pub answered : List Calls
  pub whole : Bool
  pub behind : IsBehind filter rest answered
  pub written : WritesBehind held failures out out' native bundle filter rest answered whole result
  pub between : E
  pub calls : TellsStub shown dropped err between native filter rest answered whole
  pub why : (err' ≡ between) ⊎ TellsRecord held failures out out' shown dropped between err' native bundle

-- each of these records was explained in order, or it was not
abbrev pub MayTellEach : {E : Type 0} → (E → Option (List ℕ)) → (E → Failures) → Arch → List ℕ → List Counterexample → E → E → Type 0
MayTellEach shown dropped native bundle [] err err' = err' ≡ err
MayTellEach shown dropped native bundle (found ∷ more) err err' =
    (between : _) × MayTellWhy shown dropped err between native bundle found.call
    × MayTellEach shown dropped native bundle more between err'

-- these are the records that were found: none, or the one of the evidence and further ones
abbrev pub AreFoundOf : Arch → List ℕ → List ℕ → List Calls → Bool → Result Evidence MakeError → List Counterexample → Type 0
AreFoundOf native bundle filter answered whole (Ok (Refuting found)) all = AreFoundBehind native bundle filter answered whole found all
AreFoundOf native bundle filter answered whole other all = all ≡ []

-- the lines of all records that were found behind a stub were written; or what is written without `all`, if no record was found
abbrev pub WritesFound : {O : Type 0} → (O → Option (List ℕ)) → (O → Failures) → O → O → Arch → List ℕ → List ℕ → List ℕ → List Calls
    → Bool → List Counterexample → Result Bool WriteFault → Type 0
WritesFound held failures out out' native bundle filter rest answered whole all result =
    ((all ≡ []) × WritesBehind held failures out out' native bundle filter rest answered whole result)
    ⊎ ((found : Counterexample) × AreFoundBehind native bundle filter answered whole found all × WritesLines held failures out out' all result)

-- What was written of all records that are found behind a stub. On standard error are the calls that the stub answers. Behind
-- them is an explanation of each record whose line was written.
pub record TellsAllBehind {O E : Type 0} (held : O → Option (List ℕ)) (failures : O → Failures) (out out' : O)
    (shown : E → Option (List ℕ)) (dropped : E → Failures) (err err' : E) (native : Arch) (bundle filter : List ℕ)
    (result : Result Bool WriteFault) : Type 0 where
  pub rest : List ℕ
  pub answered : List Calls
  pub whole : Bool
  pub behind : IsBehind filter rest answered
  pub all : List Counterexample
  pub written : WritesFound held failures out out' native bundle filter rest answered whole all result
  pub between : E
  pub calls : TellsStub shown dropped err between native filter rest answered whole
  pub each : MayTellEach shown dropped native bundle all between err'
