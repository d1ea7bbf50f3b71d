-- What is judged of a filter where calls may be left aside.
use Rattle.std.specs.Prelude.{ℕ, ◌≡◌, ◌≢◌, Bool, List, [], if◌then◌else◌, Result, Ok, Err}
use Rattle.std.specs.List.{All}
use Rattle.call_record.specs.Record.{words}
use Rattle.machines.specs.declared.arch.Arch.{Arch}
use Rattle.machines.specs.Arch.{family_of}
use Rattle.bpf_insn.specs.Bytes.{insns_of}
use Rattle.profile.specs.Policy.{Policy}
use Rattle.certify.specs.declared.error.CertifyError.TheVariants as maker
use Rattle.maker.specs.declared.evidence.evidence.Counterexample.{Counterexample}
use Rattle.maker.specs.declared.evidence.evidence.Evidence.{Evidence}
use Rattle.maker.specs.declared.evidence.evidence.Evidence.TheVariants.{Certificate, Refuting}
use Rattle.maker.specs.declared.make_error.MakeError.{MakeError}
use Rattle.maker.specs.declared.make_error.MakeError.TheVariants.{Certify, OutOfMemory}
use Rattle.maker.specs.Certified.{AreJudged}
use Rattle.maker.specs.Finding.{IsBundle}
use Rattle.compare.specs.declared.behind_runc.stub.calls.Calls.{Calls}
use Rattle.compare.specs.Behind.{IsJudgedBehind}
use Rattle.compare.specs.Counterexamples.{Refutes}
use Rattle.compare.specs.Stub.{IsAnswered, IsOf}
use Rattle.aside.specs.declared.leave.Leave.{Leave}
use Rattle.aside.specs.Aside.{IsAside, IsRightBut}
use Rattle.aside.specs.Named.{MayBeAside}

-- Calls are left aside with reason. They may be left aside, and on a record of one of them the filter gives another verdict than the
-- bundle says.
pub record IsLeftOut (native : Arch) (bundle filter : List ℕ) (leave : Leave) (calls : Calls) : Type 0 where
  pub may : MayBeAside (family_of native) leave calls
  pub found : Counterexample
  pub refutes : Refutes native bundle filter found
  pub is_of : IsOf (words found.call) calls

abbrev pub AreLeftOut : Arch → List ℕ → List ℕ → Leave → List Calls → Type 0
AreLeftOut native bundle filter leave aside = All (IsLeftOut native bundle filter leave) aside

-- the bundle means a profile for which the filter is right but for these calls, and for those that its stub answers
abbrev pub MeansRightBut : Arch → List ℕ → List ℕ → List Calls → List Calls → Type 0
MeansRightBut native bundle filter answered aside =
    (policy : Policy) × IsBundle native bundle policy × IsRightBut policy (insns_of filter) answered aside

-- a record refutes the filter that is not of a call that is left aside, and that its stub does not answer
pub record RefutesBut (native : Arch) (bundle filter : List ℕ) (answered aside : List Calls) (found : Counterexample) : Type 0 where
  pub refutes : Refutes native bundle filter found
  pub kept : IsAside aside (words found.call) → ⊥
  pub passed : IsAnswered answered (words found.call) → ⊥

-- neither was found: the bundle means a profile, and the kernel accepts the filter
abbrev pub IsOpenBut : Arch → List ℕ → List ℕ → MakeError → Type 0
IsOpenBut native bundle filter (Certify e) = (e ≢ maker.OutOfMemory) × ((policy : Policy) × AreJudged native bundle filter policy)
IsOpenBut native bundle filter other = ⊥

-- the calls of the stub, unless the whole filter is asked about
abbrev pub stub_calls : Bool → List Calls → List Calls
stub_calls whole answered = if whole then [] else answered

-- what is judged where these calls are left aside
abbrev pub IsJudgedBut : Arch → List ℕ → List ℕ → List Calls → List Calls → Result Evidence MakeError → Type 0
IsJudgedBut native bundle filter answered aside (Ok (Certificate bytes)) = MeansRightBut native bundle filter answered aside
IsJudgedBut native bundle filter answered aside (Ok (Refuting found)) = RefutesBut native bundle filter answered aside found
IsJudgedBut native bundle filter answered aside (Err e) = e ≢ OutOfMemory → IsOpenBut native bundle filter e

-- What is judged, and of which calls it is not. If none is left aside, it is what is judged without such words.
pub record IsJudged (native : Arch) (bundle filter rest : List ℕ) (answered : List Calls) (leave : Leave) (aside : List Calls)
    (whole : Bool) (judged : Result Evidence MakeError) : Type 0 where
  pub left : AreLeftOut native bundle filter leave aside
  pub all : aside ≡ [] → IsJudgedBehind native bundle filter rest answered whole judged
  pub but : aside ≢ [] → IsJudgedBut native bundle filter (stub_calls whole answered) aside judged
