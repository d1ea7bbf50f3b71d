-- What refutes a filter: a record on which it gives another verdict than the profile says. Verdicts are those of seccomp(2),
-- as PROFILES.md and FILTERS.md tell them.
use Rattle.std.specs.Prelude.{◌≡◌, ◌≢◌, ⊤, ℕ, List, Option, Some, None, Result, IfErr, IfOk, IfSome}
use Rattle.call_record.specs.Record.{words}
use Rattle.bpf_insn.specs.declared.instruction.Insn.{Insn}
use Rattle.bpf_insn.specs.Machine.{verdict_of}
use Rattle.profile.specs.Policy.{Policy, Says}
use Rattle.rule_compile.specs.Shape.{IsCallFilter, IsPlain}
use Rattle.rule_compile.specs.Steady.{IsSteady, Nothing}
use Rattle.cert_check.specs.Right.{IsRight}
use Rattle.cert_check.specs.Valid.{IsValidCertificate}
use Rattle.certify.specs.Telling.{IsTelling}
use Rattle.certify.specs.declared.error.CertifyError.{CertifyError}
use Rattle.certify.specs.declared.error.CertifyError.TheVariants.{OutOfMemory}
use Rattle.certify.specs.Error.{IsOfSize}
use Rattle.maker.specs.declared.evidence.evidence.Counterexample.{Counterexample}
use Rattle.maker.specs.declared.evidence.evidence.Evidence.{Evidence}
use Rattle.maker.specs.declared.evidence.evidence.Evidence.TheVariants.{Certificate, Refuting}

pub record Refutes (policy : Policy) (p : List Insn) (r : List ℕ) (given said : ℕ) : Type 0 where
  pub gives : verdict_of p r ≡ Some given
  pub says : Says policy r said
  pub unlike : given ≢ said

-- its record refutes the filter, by its two verdicts
abbrev pub IsCounterexample : Policy → List Insn → Counterexample → Type 0
IsCounterexample policy p found = Refutes policy p (words found.call) found.given found.said

-- the evidence on a filter: a certificate that keeps each rule of the checker, or what refutes the filter
abbrev pub IsEvidence : Policy → List Insn → Evidence → Type 0
IsEvidence policy p (Certificate bytes) = IsValidCertificate policy p bytes.items
IsEvidence policy p (Refuting found) = IsCounterexample policy p found

abbrev pub IsCertificate : Evidence → Type 0
IsCertificate (Certificate bytes) = ⊤
IsCertificate (Refuting found) = ⊥

-- each filter of which a comparison tells all that it asks is judged, unless the format or memory has no room
abbrev pub JudgesTelling : List Insn → Result Evidence CertifyError → Type 0
JudgesTelling p result = IsTelling p → IfErr result IsOfSize

-- the same of each filter that compares steadily
abbrev pub JudgesSteady : List Insn → Result Evidence CertifyError → Type 0
JudgesSteady p result = IsSteady p 0 Nothing → IfErr result IsOfSize

-- a filter that has the shape of a plain profile's gets a certificate
abbrev pub CertifiesShape : Policy → List Insn → Result Evidence CertifyError → Type 0
CertifiesShape policy p result = IsPlain policy → IsCallFilter policy p → IfOk result IsCertificate

-- or memory is refused
abbrev pub ShapeLacksMemory : Policy → List Insn → Result Evidence CertifyError → Type 0
ShapeLacksMemory policy p result = IsPlain policy → IsCallFilter policy p → IfErr result (λ e. e ≡ OutOfMemory)

-- what is found, if something is, refutes the filter
abbrev pub FindsCounterexample : Policy → List Insn → Result (Option Counterexample) CertifyError → Type 0
FindsCounterexample policy p result = IfOk result (λ answer. IfSome answer (IsCounterexample policy p))

-- a filter with a certificate is right
abbrev pub ShowsRight : Policy → List Insn → Result Evidence CertifyError → Type 0
ShowsRight policy p result = IfOk result (λ e. IsCertificate e → IsRight policy p)
