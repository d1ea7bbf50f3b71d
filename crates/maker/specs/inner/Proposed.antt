-- What is made of a profile before the checker is asked.
use Rattle.std.specs.Global.{Vec}
use Rattle.std.specs.Prelude.{ℕ, ◌≡◌, List, None, Result}
use Rattle.bpf_insn.specs.declared.instruction.Insn.{Insn}
use Rattle.bpf_insn.specs.Bytes.{insns_of, view_fault}
use Rattle.profile.specs.Policy.{Policy}
use Rattle.rule_compile.specs.Right.{IsRightFilter}
use Rattle.rule_compile.specs.Shape.{IsCallFilter, IsPlain}
use Rattle.rule_compile.specs.Steady.{IsSteady, Nothing}
use Rattle.cert_check.specs.declared.fault.CheckError.{CheckError}
use Rattle.cert_check.specs.Certified.{Kept}
use Rattle.certify.specs.declared.error.CertifyError.{CertifyError}
use Rattle.certify.specs.Certificates.{MakesValid}

-- the filter and the certificate break no rule that the checker looks for
abbrev pub IsUnbroken : Policy → List ℕ → List ℕ → Type 0
IsUnbroken policy filter cert = (e : CheckError) → Kept policy filter cert e

-- the bytes are a right program for the profile, which compares steadily
pub record IsMade (policy : Policy) (filter : List ℕ) : Type 0 where
  pub program : view_fault filter ≡ None
  pub right : IsRightFilter policy (insns_of filter)
  pub steady : IsSteady (insns_of filter) 0 Nothing

-- a certificate of a filter that has the shape of a plain profile's keeps each rule of the checker
abbrev pub MakesOwnValid : Policy → List Insn → Result (Vec ℕ) CertifyError → Type 0
MakesOwnValid policy p result = IsPlain policy → IsCallFilter policy p → MakesValid policy p result
