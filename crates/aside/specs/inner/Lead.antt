-- How calls come to be left aside, and what is known of the filter then.
use Rattle.std.specs.Prelude.{ℕ, ◌≡◌, ◌≢◌, List, Result, Ok}
use Rattle.call_record.specs.Record.{words}
use Rattle.machines.specs.declared.arch.Arch.{Arch}
use Rattle.machines.specs.declared.arch.Family.{Family}
use Rattle.certify.specs.declared.error.CertifyError.TheVariants as maker
use Rattle.maker.specs.declared.evidence.evidence.Counterexample.{Counterexample}
use Rattle.maker.specs.declared.evidence.evidence.Evidence.{Evidence}
use Rattle.maker.specs.declared.evidence.evidence.Evidence.TheVariants.{Refuting}
use Rattle.maker.specs.declared.make_error.MakeError.{MakeError}
use Rattle.maker.specs.declared.make_error.MakeError.TheVariants.{Certify, OutOfMemory}
use Rattle.maker.specs.Certified.{AreJudged}
use Rattle.profile.specs.Policy.{Policy}
use Rattle.compare.specs.declared.behind_runc.stub.calls.Calls.{Calls}
use Rattle.compare.specs.Stub.{IsOf}
use Rattle.aside.specs.declared.leave.Leave.{Leave}
use Rattle.aside.specs.Named.{MayBeAside}

-- the bundle means a profile, and the kernel accepts the filter
abbrev pub AreTaken : Arch → List ℕ → List ℕ → Type 0
AreTaken native bundle filter = (policy : Policy) × AreJudged native bundle filter policy

-- the error tells that neither was found, or of memory
abbrev pub IsUndecided : MakeError → Type 0
IsUndecided (Certify e) = e ≢ maker.OutOfMemory
IsUndecided OutOfMemory = Unit {0}
IsUndecided other = ⊥

-- what was judged is a record of one of these calls, which may be left aside
pub record Leads (family : Family) (leave : Leave) (judged : Result Evidence MakeError) (calls : Calls) : Type 0 where
  pub may : MayBeAside family leave calls
  pub found : Counterexample
  pub is : judged ≡ Ok (Refuting found)
  pub is_of : IsOf (words found.call) calls
