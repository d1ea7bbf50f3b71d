-- What a bundle is that was made of a filter which allows the calls of machines that it does not know.
use Rattle.std.specs.Prelude.{◌≡◌, ◌↔◌, ℕ, List, None, Some, Result, Ok, Err}
use Rattle.call_record.specs.Verdict.{allow}
use Rattle.call_record.specs.Words.{IsRecord}
use Rattle.machines.specs.declared.arch.Arch.{Arch}
use Rattle.bpf_insn.specs.declared.instruction.Insn.{Insn}
use Rattle.bpf_insn.specs.Bytes.{insns_of, view_fault}
use Rattle.bpf_insn.specs.Machine.{verdict_of}
use Rattle.kernel_check.specs.Accepted.{IsAccepted}
use Rattle.profile.specs.Policy.{IsNative, Policy, Says}
use Rattle.maker.specs.evidence.Counterexample.{IsCertificate}
use Rattle.maker.specs.declared.evidence.evidence.Evidence.{Evidence}
use Rattle.maker.specs.declared.make_error.MakeError.{MakeError}
use Rattle.maker.specs.Finding.{IsBundle}
use Rattle.recover_others.specs.Others.{AllowsOthers}

-- The verdict of a record where other calls are allowed. A call of a listed machine gets what the profile says of it, and each other
-- record ALLOW.
pub record SaysAllowing (p : Policy) (r : List ℕ) (v : ℕ) : Type 0 where
  pub own : IsNative p r → Says p r v
  pub other : ¬ IsNative p r → v ≡ allow

-- on each record the program gives this verdict, and no other
abbrev pub IsRightAllowing : Policy → List Insn → Type 0
IsRightAllowing p program = (r : List ℕ) → IsRecord r → (v : ℕ) → (verdict_of program r ≡ Some v) ↔ SaysAllowing p r v

-- The bundle means a profile. The bytes are a program that the kernel accepts. It gives each call of a listed machine the profile's verdict
-- and no other, and each other record ALLOW.
pub record MeansAllowing (native : Arch) (bundle filter : List ℕ) : Type 0 where
  pub policy : Policy
  pub means : IsBundle native bundle policy
  pub program : view_fault filter ≡ None
  pub accepted : IsAccepted (insns_of filter)
  pub right : IsRightAllowing policy (insns_of filter)

-- so it is, and the section tells that other calls are allowed
pub record IsRecoveredOthers (native : Arch) (bundle filter : List ℕ) : Type 0 where
  pub told : AllowsOthers bundle
  pub is : MeansAllowing native bundle filter

-- what was judged is a certificate
abbrev pub IsCertified : Result Evidence MakeError → Type 0
IsCertified (Ok evidence) = IsCertificate evidence
IsCertified (Err e) = ⊥
