-- What a bundle is that was made of a filter, where calls may be left aside, and what is told of these.
use Rattle.std.specs.Prelude.{ℕ, ◌≡◌, ◌-◌, ◌==◌, ◌++◌, if◌then◌else◌, Bool, false, List, [], length, codes}
use Rattle.std.specs.Prelude.{⊤, Result, Ok, Err}
use Rattle.std.specs.List.{flat_map}
use Rattle.machines.specs.declared.arch.Arch.{Arch}
use Rattle.machines.specs.declared.arch.Family.{Family}
use Rattle.machines.specs.Arch.{family_of}
use Rattle.maker.specs.evidence.Counterexample.{IsCertificate}
use Rattle.maker.specs.declared.evidence.evidence.Evidence.{Evidence}
use Rattle.maker.specs.declared.make_error.MakeError.{MakeError}
use Rattle.compare.specs.declared.behind_runc.stub.calls.Calls.{Calls}
use Rattle.compare.specs.Behind.{AreAccepted, IsBehind}
use Rattle.compare.specs.StubTold.{calls_line, stub_text}
use Rattle.aside.specs.declared.leave.Leave.{Leave}
use Rattle.recover.specs.Unsaid.{IsUnsaid}
use Rattle.recover.specs.declared.unsaid.Unsaid.{Unsaid}
use Rattle.recover.specs.declared.unsaid.Unsaid.TheVariants as why
use Rattle.aside.specs.Judged.{AreLeftOut, MeansRightBut, stub_calls}

-- The kernel accepts the filter. The bundle means a profile for which it is right but for some calls. These are left aside, with reason,
-- or its stub answers them.
pub record IsRecoveredBut (native : Arch) (bundle filter : List ℕ) (leave : Leave) (answered aside : List Calls) : Type 0 where
  pub accepted : AreAccepted filter
  pub left : AreLeftOut native bundle filter leave aside
  pub right : MeansRightBut native bundle filter answered aside

-- what was judged is a certificate
abbrev pub IsCertified : Result Evidence MakeError → Type 0
IsCertified (Ok evidence) = IsCertificate evidence
IsCertified (Err e) = ⊥

-- What a reason says of the filter behind a stub. What came of judging a bundle that was written says no more.
abbrev pub IsUnsaidBut : Arch → List ℕ → Unsaid → Type 0
IsUnsaidBut native rest (why.Unlike found) = ⊤
IsUnsaidBut native rest (why.Undecided make_error) = ⊤
IsUnsaidBut native rest other = IsUnsaid native rest other

-- a line, and the lines of the calls that are left aside
abbrev pub but_text : Family → List Calls → List ℕ
but_text family aside = codes "this section is the filter's but for these calls:\n" ++ flat_map (calls_line family) aside

-- the same, if there are any
abbrev pub aside_text : Family → List Calls → List ℕ
aside_text family aside = if length aside == 0 then [] else but_text family aside

-- the lines on the stub of so many bytes, if it was asked for, and on the calls that are left aside
abbrev pub lines_of : Family → Bool → ℕ → List Calls → Bool → List Calls → List ℕ
lines_of family runc size answered whole aside =
    (if runc then stub_text family size answered whole else []) ++ aside_text family aside

-- A bundle that is made of a filter, and the lines that tell of which calls the filter need not be right. They are those that a stub
-- answers, if it was asked for, and those that are left aside.
pub record IsToldBut (native : Arch) (filter : List ℕ) (runc : Bool) (leave : Leave) (bundle lines : List ℕ) : Type 0 where
  pub rest : List ℕ
  pub answered : List Calls
  pub behind : IsBehind filter rest answered
  pub asked : runc ≡ false → answered ≡ []
  pub whole : Bool
  pub aside : List Calls
  pub recovered : IsRecoveredBut native bundle filter leave (stub_calls whole answered) aside
  pub told : lines ≡ lines_of (family_of native) runc (length filter - length rest) answered whole aside
