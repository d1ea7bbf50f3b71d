-- What is written of a filter that is judged but for calls.
use Rattle.std.specs.Prelude.{ℕ, ◌≡◌, ◌≢◌, ◌⊎◌, Bool, true, false, List, [], ◌++◌, Option, Result, IfOk, codes}
use Rattle.std.specs.List.{flat_map}
use Rattle.machines.specs.declared.arch.Arch.{Arch}
use Rattle.machines.specs.declared.arch.Family.{Family}
use Rattle.machines.specs.Arch.{family_of}
use Rattle.call_record.specs.Record.{words}
use Rattle.maker.specs.declared.evidence.evidence.Counterexample.{Counterexample}
use Rattle.maker.specs.declared.make_error.MakeError.{MakeError}
use Rattle.maker.specs.Exported.{LacksMemory, line_of}
use Rattle.maker.specs.Told.{IsLine}
use Rattle.texts.specs.Failures.{Failures}
use Rattle.texts.specs.Sink.{WritesMade}
use Rattle.texts.specs.declared.streams.fault.WriteFault.{WriteFault}
use Rattle.compare.specs.declared.behind_runc.stub.calls.Calls.{Calls}
use Rattle.compare.specs.Behind.{AreFoundBehind, IsBehind, WritesBehind}
use Rattle.compare.specs.Counterexamples.{WritesLines}
use Rattle.compare.specs.StubTold.{calls_line}
use Rattle.aside.specs.declared.leave.Leave.{Leave}
use Rattle.aside.specs.Judged.{AreLeftOut, RefutesBut, IsOpenBut, MeansRightBut, stub_calls}

-- a line, and the lines of the calls that are left aside
abbrev pub but_text : Family → List Calls → List ℕ
but_text family aside = codes "yes, but for these calls:\n" ++ flat_map (calls_line family) aside

-- the filter is right but for these calls, which are told; the answer is true
pub record WritesRightBut {S : Type 0} (held : S → Option (List ℕ)) (failures : S → Failures) (old new : S) (native : Arch)
    (bundle filter : List ℕ) (answered aside : List Calls) (result : Result Bool WriteFault) : Type 0 where
  pub right : MeansRightBut native bundle filter answered aside
  pub written : WritesMade held failures old new (but_text (family_of native) aside) result
  pub told : IfOk result (λ done. done ≡ true)

-- the line of a record of another call that refutes the filter; the answer is false
pub record WritesCounterexampleBut {S : Type 0} (held : S → Option (List ℕ)) (failures : S → Failures) (old new : S) (native : Arch)
    (bundle filter : List ℕ) (answered aside : List Calls) (result : Result Bool WriteFault) : Type 0 where
  pub found : Counterexample
  pub line : List ℕ
  pub is : IsLine (words found.call) found.given found.said line
  pub refutes : RefutesBut native bundle filter answered aside found
  pub written : WritesMade held failures old new line result
  pub told : IfOk result (λ done. done ≡ false)

-- the line that says why there is neither; the answer is false
pub record WritesOpenBut {S : Type 0} (held : S → Option (List ℕ)) (failures : S → Failures) (old new : S) (native : Arch)
    (bundle filter : List ℕ) (result : Result Bool WriteFault) : Type 0 where
  pub make_error : MakeError
  pub is : IsOpenBut native bundle filter make_error
  pub written : WritesMade held failures old new (line_of make_error) result
  pub told : IfOk result (λ done. done ≡ false)

-- what is written where these calls are left aside
abbrev pub WritesBut : {S : Type 0} → (S → Option (List ℕ)) → (S → Failures) → S → S → Arch → List ℕ → List ℕ → List Calls → List Calls
    → Result Bool WriteFault → Type 0
WritesBut held failures old new native bundle filter answered aside result =
    WritesRightBut held failures old new native bundle filter answered aside result
    ⊎ (WritesCounterexampleBut held failures old new native bundle filter answered aside result
    ⊎ (WritesOpenBut held failures old new native bundle filter result ⊎ LacksMemory old new result))

-- ---- all records, and what `certify` writes

-- What was found: the record that was found first, and then further ones. Each refutes the filter, and none of the further ones is of a
-- call that is left aside or that the stub answers.
abbrev pub AreFoundBut : Arch → List ℕ → List ℕ → List Calls → List Calls → Counterexample → List Counterexample → Type 0
AreFoundBut native bundle filter answered aside found all = AreFoundBehind native bundle filter (answered ++ aside) false found all

-- what was written are the lines of such records, one at least; the answer is false
pub record WritesAllBut {S : Type 0} (held : S → Option (List ℕ)) (failures : S → Failures) (old new : S) (native : Arch)
    (bundle filter : List ℕ) (answered aside : List Calls) (result : Result Bool WriteFault) : Type 0 where
  pub found : Counterexample
  pub all : List Counterexample
  pub are : AreFoundBut native bundle filter answered aside found all
  pub written : WritesLines held failures old new all result

-- What `ccell certify` writes with `calls` or `without-x32` behind the filter. Calls are left aside with reason. If none are, it writes
-- what it writes without these words, and else what is so of the others. Or with `all` it writes all records that are found.
pub record CertifiesBy {S : Type 0} (held : S → Option (List ℕ)) (failures : S → Failures) (old new : S) (native : Arch)
    (bundle filter : List ℕ) (leave : Leave) (result : Result Bool WriteFault) : Type 0 where
  pub rest : List ℕ
  pub answered : List Calls
  pub behind : IsBehind filter rest answered
  pub aside : List Calls
  pub left : AreLeftOut native bundle filter leave aside
  pub whole : Bool
  pub written : ((aside ≡ []) × WritesBehind held failures old new native bundle filter rest answered whole result)
      ⊎ (((aside ≢ []) × WritesBut held failures old new native bundle filter (stub_calls whole answered) aside result)
      ⊎ WritesAllBut held failures old new native bundle filter (stub_calls whole answered) aside result)

-- or memory is refused
abbrev pub CertifiesBut : {S : Type 0} → (S → Option (List ℕ)) → (S → Failures) → S → S → Arch → List ℕ → List ℕ → Leave
    → Result Bool WriteFault → Type 0
CertifiesBut held failures old new native bundle filter leave result =
    CertifiesBy held failures old new native bundle filter leave result ⊎ LacksMemory old new result
