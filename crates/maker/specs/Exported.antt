-- What is exported of a bundle.
use Rattle.std.specs.Prelude.{ℕ, ◌≡◌, ◌≢◌, ◌⊎◌, Bool, true, false, List, [], ◌∷◌, ◌++◌, Option, Result, Err, IfOk, IfSome, codes}
use Rattle.machines.specs.declared.arch.Arch.{Arch}
use Rattle.bpf_insn.specs.Bytes.{insns_of}
use Rattle.profile.specs.Policy.{Policy}
use Rattle.profile_json.specs.declared.fault.ProfileError.TheVariants as refusal
use Rattle.profile_json.specs.Breaks.{Breaks}
use Rattle.profile_json.specs.Fault.{fault_of, text_of as refusal_text}
use Rattle.rule_compile.specs.declared.fault.CompileError.TheVariants as compiler
use Rattle.rule_compile.specs.Fault.{text_of as compile_text}
use Rattle.rule_compile.specs.Plan.{IsPlannedTooLong}
use Rattle.certify.specs.declared.error.CertifyError.TheVariants as maker
use Rattle.certify.specs.Error.{text_of as certify_text}
use Rattle.cert_check.specs.declared.checked.Checked.{Checked}
use Rattle.cert_check.specs.Checked.{profile_of, program_of}
use Rattle.cert_check.specs.Fault.{text_of as error_text}
use Rattle.texts.specs.Failures.{Failures}
use Rattle.maker.specs.Forms.{bytes_in}
use Rattle.texts.specs.Sink.{WritesMade}
use Rattle.texts.specs.declared.streams.fault.WriteFault.{WriteFault}
use Rattle.texts.specs.declared.streams.fault.WriteFault.TheVariants as fault
use Rattle.maker.specs.declared.export.form.Form.{Form}
use Rattle.maker.specs.declared.export.form.Form.TheVariants.{Raw, Certificate}
use Rattle.texts.specs.Lines.{line_feed}
use Rattle.maker.specs.Finding.{IsBundle, IsYes}
use Rattle.maker.specs.Plain.{IsNotPlain}
use Rattle.maker.specs.declared.make_error.MakeError.{MakeError}
use Rattle.maker.specs.declared.make_error.MakeError.TheVariants.{Profile, Compile, Certify, Check, OutOfMemory}

-- The bundle means its profile. The checker says yes to the bytes of its filter with those of its certificate, in the forms in
-- which they are exported.
pub record IsCheckedOf (native : Arch) (bundle : List ℕ) (c : Checked) : Type 0 where
  pub means : IsBundle native bundle (profile_of c)
  pub read : insns_of (bytes_in Raw c) ≡ program_of c
  pub yes : IsYes (profile_of c) (bytes_in Raw c) (bytes_in Certificate c)

-- the bundle means a profile that has a plan of more instructions than a filter may have
abbrev pub IsTooLong : Arch → List ℕ → Type 0
IsTooLong native bundle = (policy : Policy) × IsBundle native bundle policy × IsPlannedTooLong policy

-- Why a bundle has no checked filter. It breaks a rule of bundles. Or it means a profile that is not plain. Then its filter is
-- longer than a filter may be, or each certificate that was made of it is larger than one may be. The checker never says no.
-- Want of memory is no such reason.
abbrev pub IsMakeError : Arch → List ℕ → MakeError → Type 0
IsMakeError native bundle (Profile e) = (e ≢ refusal.OutOfMemory) × IfSome (fault_of e) (Breaks bundle native)
IsMakeError native bundle (Compile e) = (e ≡ compiler.TooLong) × (IsNotPlain native bundle × IsTooLong native bundle)
IsMakeError native bundle (Certify e) = (e ≡ maker.TooLarge) × IsNotPlain native bundle
IsMakeError native bundle (Check e) = ⊥
IsMakeError native bundle OutOfMemory = ⊥

-- the text that says it
abbrev pub text_of : MakeError → List ℕ
text_of (Profile e) = codes "refused profile " ++ refusal_text e
text_of (Compile e) = codes "refused compile " ++ compile_text e
text_of (Certify e) = codes "refused certify " ++ certify_text e
text_of (Check e) = codes "no " ++ error_text e
text_of OutOfMemory = codes "out of memory"

-- the line that says it
abbrev pub line_of : MakeError → List ℕ
line_of make_error = text_of make_error ++ line_feed ∷ []

-- a fault by which a step stops: want of memory is told as that, and any other as the step's refusal
abbrev pub IsToldAs : {E : Type 0} → (E → MakeError) → E → E → MakeError → Type 0
IsToldAs step memory e make_error = ((e ≡ memory) × (make_error ≡ OutOfMemory)) ⊎ ((e ≢ memory) × (make_error ≡ step e))

-- what was written is a checked filter of the bundle in the form, and the answer is true
pub record WritesFilter {S : Type 0} (held : S → Option (List ℕ)) (failures : S → Failures) (old new : S) (native : Arch) (bundle : List ℕ)
    (form : Form) (result : Result Bool WriteFault) : Type 0 where
  pub checked : Checked
  pub is : IsCheckedOf native bundle checked
  pub written : WritesMade held failures old new (bytes_in form checked) result
  pub told : IfOk result (λ done. done ≡ true)

-- what was written is the line that says why there is none, and the answer is false
pub record WritesMakeError {S : Type 0} (held : S → Option (List ℕ)) (failures : S → Failures)
    (old new : S) (native : Arch) (bundle : List ℕ)
    (result : Result Bool WriteFault) : Type 0 where
  pub make_error : MakeError
  pub is : IsMakeError native bundle make_error
  pub written : WritesMade held failures old new (line_of make_error) result
  pub told : IfOk result (λ done. done ≡ false)

-- memory was refused, and nothing was written
abbrev pub LacksMemory : {S : Type 0} → S → S → Result Bool WriteFault → Type 0
LacksMemory old new result = (result ≡ Err fault.OutOfMemory) × (new ≡ old)

-- what `ccell export` writes for a bundle
abbrev pub Exports : {S : Type 0} → (S → Option (List ℕ)) → (S → Failures) → S → S → Arch → List ℕ → Form
    → Result Bool WriteFault → Type 0
Exports held failures old new native bundle form result =
    WritesFilter held failures old new native bundle form result
    ⊎ (WritesMakeError held failures old new native bundle result ⊎ LacksMemory old new result)

-- a checked filter of the bundle was written, or memory was refused
abbrev pub ExportsFilter : {S : Type 0} → (S → Option (List ℕ)) → (S → Failures) → S → S → Arch → List ℕ → Form
    → Result Bool WriteFault → Type 0
ExportsFilter held failures old new native bundle form result =
    WritesFilter held failures old new native bundle form result ⊎ LacksMemory old new result

-- what is written of a refusal, if it is one
abbrev pub Refuses : {S : Type 0} → (S → Option (List ℕ)) → (S → Failures) → S → S → MakeError → Result Bool WriteFault → Type 0
Refuses held failures old new make_error result =
    ((make_error ≢ OutOfMemory) × WritesMade held failures old new (line_of make_error) result × IfOk result (λ done. done ≡ false))
    ⊎ LacksMemory old new result
