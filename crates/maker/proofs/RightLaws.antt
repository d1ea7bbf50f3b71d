-- What is judged of a filter. What is promised of each that tells all that it asks is promised of those that compare steadily. And a
-- certificate shows that the filter is right.
use Rattle.std.proofs.Common.{ℕ, List}
use Rattle.std.specs.Prelude.{Err, IfOk, Ok, Result}
use Rattle.bpf_insn.specs.declared.instruction.Insn.{Insn}
use Rattle.cert_check.specs.Right.{IsRight}
use Rattle.cert_check.specs.Valid.{IsValidCertificate}
use Rattle.certify.proofs.TellingLaws.{steady_telling}
use Rattle.certify.specs.declared.error.CertifyError.{CertifyError}
use Rattle.profile.specs.Policy.{Policy}
use Rattle.maker.specs.declared.evidence.evidence.Evidence.{Evidence}
use Rattle.maker.specs.declared.evidence.evidence.Evidence.TheVariants.{Certificate, Refuting}
use Rattle.maker.specs.evidence.Counterexample.{IsEvidence, JudgesSteady, JudgesTelling, ShowsRight}

pub judged_of_telling : (p : List Insn) (result : Result Evidence CertifyError) → JudgesTelling p result → JudgesSteady p result
judged_of_telling p result telling steady = telling (steady_telling p steady)

pub shows_right : (policy : Policy) (p : List Insn) (result : Result Evidence CertifyError)
    → ((cert : List ℕ) → IsValidCertificate policy p cert → IsRight policy p) → IfOk result (IsEvidence policy p)
    → ShowsRight policy p result
shows_right policy p (Ok (Certificate bytes)) shows valid = λ _. shows bytes.items valid
shows_right policy p (Ok (Refuting found)) shows refutes = λ h. absurd h
shows_right policy p (Err e) shows none = tt
