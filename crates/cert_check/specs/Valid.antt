-- Certificates that keep each rule.
use Rattle.std.specs.Prelude.{◌≡◌, ℕ, List, None}
use Rattle.bpf_insn.specs.declared.instruction.Insn.{Insn}
use Rattle.bpf_insn.specs.Bytes.{insns_of, view_fault}
use Rattle.kernel_check.specs.Accepted.{IsAccepted}
use Rattle.profile.specs.Policy.{Policy}
use Rattle.cert_form.specs.Nodes.{PlainNode}
use Rattle.cert_form.specs.Spelling.{Spells}
use Rattle.cert_check.specs.declared.fault.CheckError.{CheckError}
use Rattle.cert_check.specs.Certified.{Kept}
use Rattle.cert_check.specs.Rules.{IsValid}

-- the bytes are a certificate, and its nodes keep each rule of the checker
abbrev pub IsValidCertificate : Policy → List Insn → List ℕ → Type 0
IsValidCertificate policy p bytes = (ns : List PlainNode) × Spells bytes ns × IsValid policy p ns

-- so no rule that the checker looks for is broken
abbrev pub ValidIsKept : Type 0
ValidIsKept =
    (policy : Policy) (filter cert : List ℕ) → view_fault filter ≡ None → IsAccepted (insns_of filter)
    → IsValidCertificate policy (insns_of filter) cert → (e : CheckError) → Kept policy filter cert e
