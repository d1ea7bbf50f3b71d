-- What is found of a bundle, a filter and a certificate, all three as bytes.
use Rattle.std.specs.Prelude.{ℕ, ◌≡◌, ◌≢◌, ⊤, Bool, true, false, List, [], ◌∷◌, ◌++◌, Option, Result, Ok, Err, IfOk, IfSome, codes}
use Rattle.serde_json.specs.Data.{Data}
use Rattle.machines.specs.declared.arch.Arch.{Arch}
use Rattle.machines.specs.declared.arch.Family.{Family}
use Rattle.machines.specs.declared.arch.Family.TheVariants.{Chosen, Whole}
use Rattle.machines.specs.Arch.{family_of}
use Rattle.bpf_insn.specs.Bytes.{insns_of}
use Rattle.kernel_check.specs.Accepted.{IsAccepted}
use Rattle.profile.specs.Policy.{Policy}
use Rattle.profile_json.specs.declared.fault.ProfileError.{ProfileError}
use Rattle.profile_json.specs.declared.fault.ProfileError.TheVariants as refusal
use Rattle.profile_json.specs.Breaks.{Breaks}
use Rattle.profile_json.specs.Fault.{fault_of, text_of as refusal_text}
use Rattle.profile_json.specs.Meaning.{IsText, Means}
use Rattle.cert_check.specs.declared.fault.CheckError.{CheckError}
use Rattle.cert_check.specs.declared.fault.CheckError.TheVariants as error
use Rattle.cert_check.specs.Certified.{IsFirst, Kept}
use Rattle.cert_check.specs.Fault.{text_of as error_text}
use Rattle.cert_check.specs.Right.{IsRight}
use Rattle.cert_work.specs.Work.{IsWithin}
use Rattle.texts.specs.Failures.{Failures}
use Rattle.texts.specs.Sink.{Writes}
use Rattle.texts.specs.declared.streams.fault.WriteFault.{WriteFault}
use Rattle.texts.specs.declared.streams.fault.WriteFault.TheVariants.{Write, OutOfMemory}
use Rattle.texts.specs.Lines.{line_feed}
use Rattle.maker.specs.declared.check.Finding.{Finding}
use Rattle.maker.specs.declared.check.Finding.TheVariants.{Yes, No, NoProfile, TooLarge}

-- the text of these bytes is a bundle that means the profile
abbrev pub IsBundle : Arch → List ℕ → Policy → Type 0
IsBundle native bundle policy = (t : Data) × IsText bundle t × Means t native policy

-- the kernel accepts the filter, it gives each record the profile's verdict and no other, and no rule is broken
pub record IsYes (policy : Policy) (filter cert : List ℕ) : Type 0 where
  pub accepted : IsAccepted (insns_of filter)
  pub right : IsRight policy (insns_of filter)
  pub kept : (e : CheckError) → Kept policy filter cert e

-- Yes, or the first rule that is broken. Nothing is refused beside a profile.
abbrev pub IsJudged : Policy → List ℕ → List ℕ → Finding → Type 0
IsJudged policy filter cert Yes = IsYes policy filter cert
IsJudged policy filter cert (No e) = (e ≢ error.OutOfMemory) × IsFirst policy filter cert e
IsJudged policy filter cert (NoProfile e) = ⊥
IsJudged policy filter cert TooLarge = ⊥

-- Whether the certificate's work is within its limit. With the machines of the chosen lists it has none.
abbrev pub IsLightIn : Family → Policy → List ℕ → Type 0
IsLightIn Chosen policy cert = ⊤
IsLightIn Whole policy cert = IsWithin policy cert

abbrev pub IsLight : Arch → Policy → List ℕ → Type 0
IsLight native policy cert = IsLightIn (family_of native) policy cert

-- Yes and No are said beside the profile that the bundle means, and TooLarge of the certificate. NoProfile names a fault of the bundle.
abbrev pub IsFinding : Arch → List ℕ → List ℕ → List ℕ → Finding → Type 0
IsFinding native bundle filter cert Yes = (policy : Policy) × IsBundle native bundle policy × IsJudged policy filter cert Yes
IsFinding native bundle filter cert (No e) = (policy : Policy) × IsBundle native bundle policy × IsJudged policy filter cert (No e)
IsFinding native bundle filter cert (NoProfile e) = (e ≢ refusal.OutOfMemory) × IfSome (fault_of e) (Breaks bundle native)
IsFinding native bundle filter cert TooLarge = (policy : Policy) × IsBundle native bundle policy × (IsLight native policy cert → ⊥)

-- of whose certificate it is so, beside the profile that the bundle means
abbrev pub IsLightBeside : Arch → List ℕ → List ℕ → Type 0
IsLightBeside native bundle cert = (policy : Policy) × IsBundle native bundle policy × IsLight native policy cert

-- Yes and No are told of no other certificate.
abbrev pub IsInLimit : Arch → List ℕ → List ℕ → Finding → Type 0
IsInLimit native bundle cert Yes = IsLightBeside native bundle cert
IsInLimit native bundle cert (No e) = IsLightBeside native bundle cert
IsInLimit native bundle cert (NoProfile e) = ⊤
IsInLimit native bundle cert TooLarge = ⊤

abbrev pub is_yes : Finding → Bool
is_yes Yes = true
is_yes other = false

-- the text that says it
abbrev pub text_of : Finding → List ℕ
text_of Yes = codes "yes"
text_of (No e) = codes "no " ++ error_text e
text_of (NoProfile e) = codes "refused profile " ++ refusal_text e
text_of TooLarge = codes "refused check 1 TooLarge"

-- the line that says it
abbrev pub line_of : Finding → List ℕ
line_of finding = text_of finding ++ line_feed ∷ []

-- what was written is the line of what is found, and the call tells whether that is a yes
pub record TellsFinding {S : Type 0} (held : S → Option (List ℕ)) (failures : S → Failures) (old new : S) (native : Arch)
    (bundle filter cert : List ℕ) (result : Result Bool WriteFault) : Type 0 where
  pub finding : Finding
  pub stands : IsFinding native bundle filter cert finding
  pub limit : IsInLimit native bundle cert finding
  pub written : Writes held failures old new (line_of finding) result
  pub told : IfOk result (λ yes. yes ≡ is_yes finding)

-- the line was written, or a beginning of it; or memory was refused, and nothing was written
abbrev pub WritesFinding : {S : Type 0} → (S → Option (List ℕ)) → (S → Failures) → S → S → Arch → List ℕ → List ℕ → List ℕ
    → Result Bool WriteFault → Type 0
WritesFinding held failures old new native bundle filter cert (Ok told) =
    TellsFinding held failures old new native bundle filter cert (Ok told)
WritesFinding held failures old new native bundle filter cert (Err (Write out)) =
    TellsFinding held failures old new native bundle filter cert (Err (Write out))
WritesFinding held failures old new native bundle filter cert (Err OutOfMemory) = new ≡ old

-- Only one of Yes, No and NoProfile stands. A yes leaves no fault of the bundle and no broken rule, and a bundle that means a profile has
-- no fault. TooLarge is told of such a bundle alone, and of no certificate within its limit.
pub record FindingsExclude : Type 0 where
  pub yes_no : (native : Arch) (bundle filter cert : List ℕ) (e : CheckError)
      → IsFinding native bundle filter cert Yes → IsFinding native bundle filter cert (No e) → ⊥
  pub yes_refused : (native : Arch) (bundle filter cert : List ℕ) (e : ProfileError)
      → IsFinding native bundle filter cert Yes → IsFinding native bundle filter cert (NoProfile e) → ⊥
  pub no_refused : (native : Arch) (bundle filter cert : List ℕ) (e : CheckError) (f : ProfileError)
      → IsFinding native bundle filter cert (No e) → IsFinding native bundle filter cert (NoProfile f) → ⊥
  pub large_refused : (native : Arch) (bundle filter cert : List ℕ) (f : ProfileError)
      → IsFinding native bundle filter cert TooLarge → IsFinding native bundle filter cert (NoProfile f) → ⊥
  pub large_light : (native : Arch) (bundle filter cert : List ℕ)
      → IsFinding native bundle filter cert TooLarge → IsLightBeside native bundle cert → ⊥
