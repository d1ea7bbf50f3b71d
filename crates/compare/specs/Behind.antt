-- A filter behind the stub that runc puts in front of it, and what is judged of the two.
use Rattle.std.specs.Prelude.{ℕ, ◌≡◌, ◌≢◌, ◌⊎◌, ⊤, Bool, true, false, List, [], ◌∷◌, Option, None, Result, Ok, Err}
use Rattle.std.specs.List.{All}
use Rattle.call_record.specs.Record.{words}
use Rattle.machines.specs.declared.arch.Arch.{Arch}
use Rattle.bpf_insn.specs.Bytes.{insns_of, view_fault}
use Rattle.kernel_check.specs.Accepted.{IsAccepted}
use Rattle.maker.specs.evidence.Counterexample.{IsCertificate}
use Rattle.maker.specs.declared.evidence.evidence.Counterexample.{Counterexample}
use Rattle.maker.specs.declared.evidence.evidence.Evidence.{Evidence}
use Rattle.maker.specs.Certified.{Certifies, IsJudgement, WritesCertificate, WritesCounterexample, WritesOpen}
use Rattle.maker.specs.Exported.{LacksMemory}
use Rattle.maker.specs.Finding.{IsBundle}
use Rattle.maker.specs.declared.make_error.MakeError.{MakeError}
use Rattle.texts.specs.Failures.{Failures}
use Rattle.texts.specs.declared.streams.fault.WriteFault.{WriteFault}
use Rattle.profile.specs.Policy.{Policy}
use Rattle.compare.specs.declared.behind_runc.stub.calls.Calls.{Calls}
use Rattle.compare.specs.Spared.{IsRightBehind, Spares}
use Rattle.compare.specs.Counterexamples.{AreFound, WritesLines}
use Rattle.compare.specs.Stub.{IsAnswered, IsStub}

-- the bytes are a program that the kernel accepts
pub record AreAccepted (filter : List ℕ) : Type 0 where
  pub program : view_fault filter ≡ None
  pub accepted : IsAccepted (insns_of filter)

-- the filter begins with a stub that answers these calls, one at least, and the rest is what stands behind it
pub record HasStub (filter rest : List ℕ) (answered : List Calls) : Type 0 where
  pub filter_is : AreAccepted filter
  pub rest_is : AreAccepted rest
  pub stub : IsStub (insns_of filter) (insns_of rest) answered
  pub some : answered ≢ []

-- the same, or the rest is the whole filter, and no call is answered in front
abbrev pub IsBehind : List ℕ → List ℕ → List Calls → Type 0
IsBehind filter rest answered = HasStub filter rest answered ⊎ ((rest ≡ filter) × (answered ≡ []))

-- it is a record that refutes
abbrev pub IsFound : Result Evidence MakeError → Type 0
IsFound (Ok evidence) = IsCertificate evidence → ⊥
IsFound (Err e) = ⊥

-- it is none
abbrev pub IsNoCounterexample : Result Evidence MakeError → Type 0
IsNoCounterexample (Ok evidence) = IsCertificate evidence
IsNoCounterexample (Err e) = ⊤

-- the bundle means a profile that spares the calls
abbrev pub MeansSparing : Arch → List ℕ → List Calls → Type 0
MeansSparing native bundle answered = (policy : Policy) × IsBundle native bundle policy × Spares policy answered

-- the bundle means a profile for which the filter is right but for these calls
abbrev pub MeansRight : Arch → List ℕ → List ℕ → List Calls → Type 0
MeansRight native bundle filter answered =
    (policy : Policy) × IsBundle native bundle policy × IsRightBehind policy (insns_of filter) answered

-- What is judged, and whether it is asked of the whole filter. If the rest is asked about, it is a counterexample to the whole filter. Or
-- it is judged of the rest and is no counterexample, and then the bundle spares the calls that the stub answers.
abbrev pub IsJudgedBehind : Arch → List ℕ → List ℕ → List ℕ → List Calls → Bool → Result Evidence MakeError → Type 0
IsJudgedBehind native bundle filter rest answered true judged = IsJudgement native bundle filter judged
IsJudgedBehind native bundle filter rest answered false judged =
    (IsJudgement native bundle filter judged × IsFound judged)
    ⊎ (IsJudgement native bundle rest judged × IsNoCounterexample judged × MeansSparing native bundle answered)

-- What is written. If the whole filter is asked about: what `ccell certify` writes of it. If the rest is: a counterexample to the whole
-- filter. Or it is a certificate with which the checker says yes of the rest. Then the whole filter is right but for the stub's calls. Or
-- it is the line that says why the rest is not decided, and then the bundle spares these calls.
abbrev pub WritesBehind : {S : Type 0} → (S → Option (List ℕ)) → (S → Failures) → S → S → Arch → List ℕ → List ℕ → List ℕ
    → List Calls → Bool → Result Bool WriteFault → Type 0
WritesBehind held failures old new native bundle filter rest answered true result =
    Certifies held failures old new native bundle filter result
WritesBehind held failures old new native bundle filter rest answered false result =
    WritesCounterexample held failures old new native bundle filter result
    ⊎ ((WritesCertificate held failures old new native bundle rest result × MeansRight native bundle filter answered)
    ⊎ ((WritesOpen held failures old new native bundle rest result × MeansSparing native bundle answered) ⊎ LacksMemory old new result))

-- what `ccell certify` with `runc` behind the filter writes: this, of a rest behind a stub
abbrev pub CertifiesBehind : {S : Type 0} → (S → Option (List ℕ)) → (S → Failures) → S → S → Arch → List ℕ → List ℕ
    → Result Bool WriteFault → Type 0
CertifiesBehind held failures old new native bundle filter result =
    ((rest : List ℕ) × (answered : List Calls) × (whole : Bool) × IsBehind filter rest answered
    × WritesBehind held failures old new native bundle filter rest answered whole result)
    ⊎ LacksMemory old new result

-- ---- all records behind the stub

-- the stub does not answer its record
abbrev pub IsNotAnswered : List Calls → Counterexample → Type 0
IsNotAnswered answered found = IsAnswered answered (words found.call) → ⊥

-- What was found of a filter behind a stub: the record that was found first, and then further ones. Each refutes the whole filter. Where
-- the rest is asked about, the stub answers none of the further ones.
pub record AreFoundBehind (native : Arch) (bundle filter : List ℕ) (answered : List Calls) (whole : Bool) (found : Counterexample)
    (all : List Counterexample) : Type 0 where
  pub are : AreFound native bundle filter found all
  pub passed : whole ≡ false → All (IsNotAnswered answered) are.further

-- what was written are the lines of such records, one at least
pub record WritesAllBehind {S : Type 0} (held : S → Option (List ℕ)) (failures : S → Failures) (old new : S) (native : Arch)
    (bundle filter : List ℕ) (answered : List Calls) (whole : Bool) (result : Result Bool WriteFault) : Type 0 where
  pub found : Counterexample
  pub all : List Counterexample
  pub are : AreFoundBehind native bundle filter answered whole found all
  pub written : WritesLines held failures old new all result

-- what `ccell certify` with `runc all` behind the filter writes: what it writes with `runc`, or all records that are found
abbrev pub CertifiesAllBehind : {S : Type 0} → (S → Option (List ℕ)) → (S → Failures) → S → S → Arch → List ℕ → List ℕ
    → Result Bool WriteFault → Type 0
CertifiesAllBehind held failures old new native bundle filter result =
    ((rest : List ℕ) × (answered : List Calls) × (whole : Bool) × IsBehind filter rest answered
    × (WritesBehind held failures old new native bundle filter rest answered whole result
    ⊎ WritesAllBehind held failures old new native bundle filter answered whole result))
    ⊎ LacksMemory old new result
