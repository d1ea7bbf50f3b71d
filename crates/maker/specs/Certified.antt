-- What is written of a bundle and a filter, both as bytes. It is a certificate, a call record that is a counterexample to the
-- filter, or why there is neither.
use Rattle.std.specs.Prelude.{ℕ, ◌≡◌, ◌≢◌, ◌<◌, ◌⊎◌, Bool, true, false, List, [], ◌∷◌, ◌++◌, length, slice_index}
use Rattle.std.specs.Prelude.{Option, None, Result, Ok, Err, IfOk, codes}
use Rattle.hex.specs.Hex.{encode_lower}
use Rattle.machines.specs.declared.arch.Arch.{Arch}
use Rattle.call_record.specs.Text as verdict
use Rattle.call_record.specs.Words.{IsRecord, words_of}
use Rattle.bpf_insn.specs.Bytes.{insns_of, view_fault}
use Rattle.kernel_check.specs.Accepted.{IsAccepted}
use Rattle.profile.specs.Policy.{Policy}
use Rattle.rule_compile.specs.Shape.{IsCallFilter, IsPlain}
use Rattle.rule_compile.specs.Steady.{IsSteady, Nothing}
use Rattle.maker.specs.evidence.Counterexample.{Refutes, IsCertificate, IsCounterexample}
use Rattle.maker.specs.declared.evidence.evidence.Evidence.{Evidence}
use Rattle.maker.specs.declared.evidence.evidence.Evidence.TheVariants.{Certificate, Refuting}
use Rattle.certify.specs.declared.error.CertifyError.{CertifyError}
use Rattle.certify.specs.declared.error.CertifyError.TheVariants as maker
use Rattle.cert_check.specs.Certified.{IsFirst}
use Rattle.cert_check.specs.declared.fault.CheckError.{CheckError}
use Rattle.cert_check.specs.declared.fault.CheckError.TheVariants as error
use Rattle.texts.specs.Failures.{Failures}
use Rattle.texts.specs.Sink.{WritesMade}
use Rattle.texts.specs.declared.streams.fault.WriteFault.{WriteFault}
use Rattle.texts.specs.Lines.{line_feed}
use Rattle.maker.specs.Exported.{IsMakeError, LacksMemory, line_of}
use Rattle.maker.specs.Finding.{IsBundle, IsFinding, IsYes}
use Rattle.maker.specs.declared.check.Finding.TheVariants.{Yes}
use Rattle.maker.specs.declared.make_error.MakeError.{MakeError}
use Rattle.maker.specs.declared.make_error.MakeError.TheVariants.{Profile, Compile, Certify, Check, OutOfMemory}

-- the bundle means the profile, and the filter's bytes are a program that the kernel accepts
pub record AreJudged (native : Arch) (bundle filter : List ℕ) (policy : Policy) : Type 0 where
  pub means : IsBundle native bundle policy
  pub program : view_fault filter ≡ None
  pub accepted : IsAccepted (insns_of filter)

-- the bytes of a call record
pub record AreRecord (rec : List ℕ) : Type 0 where
  pub size : length rec ≡ 64
  pub bytes : (i : ℕ) → slice_index rec i < 256
  pub words : IsRecord (words_of rec)

-- on a call record the filter gives one verdict, and the profile that the bundle means says another
pub record IsRefuted (native : Arch) (bundle filter rec : List ℕ) (given said : ℕ) : Type 0 where
  pub policy : Policy
  pub judged : AreJudged native bundle filter policy
  pub call : AreRecord rec
  pub refutes : Refutes policy (insns_of filter) (words_of rec) given said

-- the line that says it: two hexadecimal digits for each byte of the record, and both verdicts
abbrev pub digits_line : List ℕ → ℕ → ℕ → List ℕ
digits_line digits given said =
    codes "no record " ++ digits ++ codes " filter " ++ verdict.text_of given ++ codes " profile " ++ verdict.text_of said ++ line_feed ∷ []

abbrev pub counterexample_line : List ℕ → ℕ → ℕ → List ℕ
counterexample_line rec given said = digits_line (encode_lower rec) given said

-- a fault of the filter's bytes or of the kernel's check
abbrev pub IsOfFilter : CheckError → Type 0
IsOfFilter (error.View fault) = Unit {0}
IsOfFilter (error.Kernel refused) = Unit {0}
IsOfFilter other = ⊥

-- The bundle means a profile, and the kernel accepts the filter. Neither a certificate nor a record was found: of a filter that
-- compares steadily because the format has no room alone.
pub record IsUndecided (native : Arch) (bundle filter : List ℕ) (e : CertifyError) : Type 0 where
  pub policy : Policy
  pub judged : AreJudged native bundle filter policy
  pub no_memory : e ≢ maker.OutOfMemory
  pub steady : IsSteady (insns_of filter) 0 Nothing → e ≡ maker.TooLarge

-- Why there is neither. The bundle breaks a rule of bundles. Or it means a profile, and the filter's bytes are no program that
-- the kernel accepts. Or neither was found. Want of memory is no such reason.
abbrev pub IsOpen : Arch → List ℕ → List ℕ → MakeError → Type 0
IsOpen native bundle filter (Profile e) = IsMakeError native bundle (Profile e)
IsOpen native bundle filter (Compile e) = ⊥
IsOpen native bundle filter (Certify e) = IsUndecided native bundle filter e
IsOpen native bundle filter (Check e) =
    IsOfFilter e × ((policy : Policy) × (cert : List ℕ) × IsBundle native bundle policy × IsFirst policy filter cert e)
IsOpen native bundle filter OutOfMemory = ⊥

-- The evidence on a filter, beside a bundle. It is a certificate with which the checker says yes. Or it is a counterexample to
-- the filter, for the profile that the bundle means.
abbrev pub IsEvidenceFor : Arch → List ℕ → List ℕ → Evidence → Type 0
IsEvidenceFor native bundle filter (Certificate cert) = (policy : Policy) × IsBundle native bundle policy × IsYes policy filter cert.items
IsEvidenceFor native bundle filter (Refuting found) =
    (policy : Policy) × AreJudged native bundle filter policy × IsCounterexample policy (insns_of filter) found

-- what is judged: the evidence, or why there is none
abbrev pub IsJudgement : Arch → List ℕ → List ℕ → Result Evidence MakeError → Type 0
IsJudgement native bundle filter (Ok evidence) = IsEvidenceFor native bundle filter evidence
IsJudgement native bundle filter (Err e) = e ≢ OutOfMemory → IsOpen native bundle filter e

-- a certificate, or want of memory
abbrev pub IsOwnJudgement : Result Evidence MakeError → Type 0
IsOwnJudgement (Ok evidence) = IsCertificate evidence
IsOwnJudgement (Err e) = e ≡ OutOfMemory

-- what was written is a certificate with which the checker says yes, and the answer is true
pub record WritesCertificate {S : Type 0} (held : S → Option (List ℕ)) (failures : S → Failures) (old new : S) (native : Arch)
    (bundle filter : List ℕ) (result : Result Bool WriteFault) : Type 0 where
  pub cert : List ℕ
  pub is : IsFinding native bundle filter cert Yes
  pub written : WritesMade held failures old new cert result
  pub told : IfOk result (λ done. done ≡ true)

-- what was written is the line of a record that refutes the filter, and the answer is false
pub record WritesCounterexample {S : Type 0} (held : S → Option (List ℕ)) (failures : S → Failures) (old new : S) (native : Arch)
    (bundle filter : List ℕ) (result : Result Bool WriteFault) : Type 0 where
  pub rec : List ℕ
  pub given : ℕ
  pub said : ℕ
  pub is : IsRefuted native bundle filter rec given said
  pub written : WritesMade held failures old new (counterexample_line rec given said) result
  pub told : IfOk result (λ done. done ≡ false)

-- what was written is the line that says why there is neither, and the answer is false
pub record WritesOpen {S : Type 0} (held : S → Option (List ℕ)) (failures : S → Failures) (old new : S) (native : Arch)
    (bundle filter : List ℕ) (result : Result Bool WriteFault) : Type 0 where
  pub make_error : MakeError
  pub is : IsOpen native bundle filter make_error
  pub written : WritesMade held failures old new (line_of make_error) result
  pub told : IfOk result (λ done. done ≡ false)

-- what `ccell certify` writes for a bundle and a filter
abbrev pub Certifies : {S : Type 0} → (S → Option (List ℕ)) → (S → Failures) → S → S → Arch → List ℕ → List ℕ
    → Result Bool WriteFault → Type 0
Certifies held failures old new native bundle filter result =
    WritesCertificate held failures old new native bundle filter result
    ⊎ (WritesCounterexample held failures old new native bundle filter result
    ⊎ (WritesOpen held failures old new native bundle filter result ⊎ LacksMemory old new result))

-- The bundle means the profile, which is plain. The filter's bytes are a program of the shape that the compiler gives to the
-- filters of such profiles.
pub record IsOwnFilter (native : Arch) (bundle filter : List ℕ) (policy : Policy) : Type 0 where
  pub means : IsBundle native bundle policy
  pub plain : IsPlain policy
  pub program : view_fault filter ≡ None
  pub shape : IsCallFilter policy (insns_of filter)

-- a certificate was written, or memory was refused
abbrev pub CertifiesOwn : {S : Type 0} → (S → Option (List ℕ)) → (S → Failures) → S → S → Arch → List ℕ → List ℕ → Result Bool WriteFault
    → Type 0
CertifiesOwn held failures old new native bundle filter result =
    WritesCertificate held failures old new native bundle filter result ⊎ LacksMemory old new result

-- no filter has both a certificate with which the checker says yes and a record that refutes it
abbrev pub EvidenceExcludes : Type 0
EvidenceExcludes =
    (native : Arch) (bundle filter cert rec : List ℕ) (given said : ℕ) → IsFinding native bundle filter cert Yes
    → IsRefuted native bundle filter rec given said → ⊥
