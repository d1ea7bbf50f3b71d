-- What certify writes, by what its parts do; and a certificate and a record that refutes exclude one another.
use Rattle.std.proofs.Common.{◌≡◌, ◌<◌, ◌++◌, append_assoc, ℕ, length, String, Global, inl, inr, Bool, true, List, refl, sym, subst, ◌∙◌}
use Rattle.std.specs.Global.{Vec}
use Rattle.std.specs.Prelude.{[], IfOk, IfSome, slice_index, string_bytes, Option, Some, None, Result, Ok, Err, ◌≢◌}
use Rattle.std.proofs.lemmas.Option.{same_Some}
use Rattle.machines.specs.declared.arch.Arch.{Arch}
use Rattle.call_record.specs.Words.{IsRecord, words_of}
use Rattle.bpf_insn.specs.declared.instruction.Insn.{Insn}
use Rattle.bpf_insn.specs.Bytes.{insns_of, view_fault}
use Rattle.bpf_insn.specs.declared.fault.ViewError.{ViewError}
use Rattle.kernel_check.specs.Accepted.{IsAccepted, IsRefusal}
use Rattle.kernel_check.specs.declared.fault.Refused.{Refused}
use Rattle.cert_check.proofs.FirstLaws.{first_kernel, first_view}
use Rattle.cert_check.specs.declared.fault.CheckError.TheVariants as error
use Rattle.cert_check.proofs.Right.{right}
use Rattle.cert_check.specs.Right.{IsRight}
use Rattle.cert_check.specs.Valid.{IsValidCertificate}
use Rattle.cert_check.proofs.ValidLaws.{kept}
use Rattle.certify.specs.declared.error.CertifyError.{CertifyError}
use Rattle.certify.specs.declared.error.CertifyError.TheVariants as maker
use Rattle.call_record.specs.Record.{words}
use Rattle.maker.specs.evidence.Counterexample.{Refutes, IsCounterexample, IsEvidence}
use Rattle.maker.specs.declared.evidence.evidence.Counterexample.{Counterexample}
use Rattle.maker.specs.declared.evidence.evidence.Evidence.{Evidence}
use Rattle.maker.specs.declared.evidence.evidence.Evidence.TheVariants.{Certificate, Refuting}
use Rattle.certify.specs.Error.{IsOfSize}
use Rattle.rule_compile.specs.Steady.{IsSteady, Nothing}
use Rattle.texts.specs.Failures.{Failures}
use Rattle.texts.specs.Sink.{StopsAt, Writes, WritesMade}
use Rattle.texts.specs.declared.streams.fault.WriteFault.{WriteFault}
use Rattle.texts.specs.declared.streams.fault.WriteFault.TheVariants as fault
use Rattle.profile.specs.Policy.{IsClear, Policy}
use Rattle.profile_json.specs.declared.fault.ProfileError.{ProfileError}
use Rattle.profile_json.specs.declared.fault.ProfileError.TheVariants as refusal
use Rattle.profile_json.specs.Breaks.{Breaks}
use Rattle.profile_json.specs.Fault.{fault_of}
use Rattle.profile_json.specs.Laws.{MeaningIsOne}
use Rattle.profile_json.proofs.unbroken.Unbroken.{meaning_is_one, meaning_is_unbroken}
use Rattle.maker.proofs.ExportLaws.{as_failed}
use Rattle.maker.proofs.FindingLaws.{no_fault, one_policy}
use Rattle.maker.specs.Certified.{AreJudged, Certifies, CertifiesOwn, EvidenceExcludes, IsOpen, IsOwnFilter, WritesCertificate}
use Rattle.maker.specs.Certified.{IsEvidenceFor, IsJudgement, IsOwnJudgement, counterexample_line}
use Rattle.maker.specs.Exported.{IsToldAs, Refuses}
use Rattle.maker.specs.Finding.{IsBundle, IsYes}
use Rattle.maker.specs.declared.make_error.MakeError.{MakeError}
use Rattle.maker.specs.declared.make_error.MakeError.TheVariants as make_error
use Rattle.maker.specs.Told.{IsLine, IsWritten, Tells, TellsLine}

-- seven parts of a line, joined from the right and from the left
pub seven_parts : (a b c d e f g : List ℕ) → a ++ (b ++ (c ++ (d ++ (e ++ (f ++ g))))) ≡ a ++ b ++ c ++ d ++ e ++ f ++ g
seven_parts a b c d e f g = simp append_assoc

-- what was formatted is this line
pub formatted : {E : Type 0} (r : Result (String Global) E) (made line : List ℕ) → made ≡ line
    → IfOk r (λ s. string_bytes s ≡ made) → IfOk r (λ s. string_bytes s ≡ line)
formatted (Ok s) made line same h = h ∙ same
formatted (Err e) made line same h = h

-- the bytes of these words are told
pub line_told : {E : Type 0} (rec words : List ℕ) (given said : ℕ) (r : Result (String Global) E) → length rec ≡ 64
    → ((i : ℕ) → slice_index rec i < 256) → words_of rec ≡ words → IfOk r (λ line. string_bytes line ≡ counterexample_line rec given said)
    → IfOk r (λ line. IsLine words given said (string_bytes line))
line_told rec words given said (Ok line) size bytes same h =
    record { rec = rec; size = size; bytes = bytes; same = same; is = h }
line_told rec words given said (Err e) size bytes same h = h

-- a fault of writing bytes that were made first
pub made_first : {S : Type 0} (T : Type 0) (held : S → Option (List ℕ)) (failures : S → Failures) (old new : S) (bytes line : List ℕ) (fault : WriteFault)
    → bytes ≡ line → Writes {S = S} {T = T} held failures old new bytes (Err fault)
    → WritesMade {S = S} {T = T} held failures old new line (Err fault)
made_first T held failures old new bytes line (fault.Write out) same h =
    subst (λ (b : List ℕ). StopsAt held failures old new b out) same h
made_first T held failures old new bytes line fault.OutOfMemory same h = absurd h

module _ {S : Type 0} (held : S → Option (List ℕ)) (failures : S → Failures) (old new : S) (words : List ℕ) (given said : ℕ) where
  pub line_failed : (T : Type 0) (line : List ℕ) (fault : WriteFault) (result : Result Bool WriteFault) → IsLine words given said line
      → WritesMade {S = S} {T = T} held failures old new line (Err fault) → result ≡ Err fault
      → Tells held failures old new words given said result
  line_failed T line fault result is written e =
      let here : TellsLine held failures old new words given said (Err fault) =
      record { line = line; is = is; written = as_failed held failures old new T line fault written; told = tt } in
      inl (subst (λ (r : Result Bool WriteFault). TellsLine held failures old new words given said r) (sym e) here)

-- the record's words, under another name of their list
refutes_on : (policy : Policy) (p q : List Insn) (r s : List ℕ) (given said : ℕ) → q ≡ p → r ≡ s → Refutes policy q s given said
    → Refutes policy p r given said
refutes_on policy p q r s given said same words h =
    subst (λ (t : List ℕ). Refutes policy p t given said) (sym words)
    (subst (λ (i : List Insn). Refutes policy i s given said) same h)

module _ (native : Arch) (bundle filter : List ℕ) where
  -- a fault of the maker, beside a filter that the kernel accepts
  pub certify_open : (policy : Policy) (e : CertifyError) (u : MakeError) → AreJudged native bundle filter policy
      → IsToldAs make_error.Certify maker.OutOfMemory e u → (IsSteady (insns_of filter) 0 Nothing → IsOfSize e) → u ≢ make_error.OutOfMemory
      → IsOpen native bundle filter u
  certify_open policy e u judged (inl memory) steady other = absurd (other memory.1)
  certify_open policy e u judged (inr step) steady other =
      subst (λ (v : MakeError). IsOpen native bundle filter v) (sym step.1)
      (record { policy = policy; judged = judged; no_memory = step.0; steady = λ compares. large (steady compares) step.0 })
    where
      large : IsOfSize e → e ≢ maker.OutOfMemory → e ≡ maker.TooLarge
      large (inl is) not = is
      large (inr is) not = absurd (not is)

  -- the bytes are no program, or one that the kernel refuses
  pub view_open : (policy : Policy) (e : ViewError) → IsBundle native bundle policy → view_fault filter ≡ Some e
      → IsOpen native bundle filter (make_error.Check (error.View e))
  view_open policy e means fault = (tt, (policy, [], means, first_view policy filter [] e fault))

  pub kernel_open : (policy : Policy) (e : Refused) → IsBundle native bundle policy → view_fault filter ≡ None
      → IsRefusal (insns_of filter) e → IsOpen native bundle filter (make_error.Check (error.Kernel e))
  kernel_open policy e means program refused = (tt, (policy, [], means, first_kernel policy filter [] program e refused))

module _ {S : Type 0} (held : S → Option (List ℕ)) (failures : S → Failures) (old new : S) (native : Arch) (bundle filter : List ℕ) where
  pub record_told : (policy : Policy) (p : List Insn) (words : List ℕ) (given said : ℕ) (result : Result Bool WriteFault)
      → AreJudged native bundle filter policy → p ≡ insns_of filter → IsRecord words → Refutes policy p words given said
      → Tells held failures old new words given said result → Certifies held failures old new native bundle filter result
  record_told policy p words given said result judged same is refutes (inl h) =
      inr (inl (record {
        rec = h.is.rec;
        given = given;
        said = said;
        is = record {
          policy = policy;
          judged = judged;
          call = record { size = h.is.size; bytes = h.is.bytes; words = subst IsRecord (sym h.is.same) is };
          refutes = refutes_on policy (insns_of filter) p (words_of h.is.rec) words given said same h.is.same refutes;
        };
        written = subst (λ (bytes : List ℕ). WritesMade held failures old new bytes result) h.is.is h.written;
        told = h.told;
      }))
  record_told policy p words given said result judged same is refutes (inr h) = inr (inr (inr h))

-- with a valid certificate of an accepted filter the checker says yes
pub yes_of_valid : (policy : Policy) (p : List Insn) (filter cert : List ℕ) → IsClear policy.rules → p ≡ insns_of filter
    → view_fault filter ≡ None → IsAccepted (insns_of filter) → IsValidCertificate policy p cert → IsYes policy filter cert
yes_of_valid policy p filter cert clear same whole taken valid =
    let here : IsValidCertificate policy (insns_of filter) cert =
    subst (λ (q : List Insn). IsValidCertificate policy q cert) same valid in record {
      accepted = taken;
      right = right policy (insns_of filter) here.0 clear taken here.2;
      kept = kept policy filter cert whole taken here;
    }

-- want of memory is told as such
pub told_memory : (e : CertifyError) (u : MakeError) → IsToldAs make_error.Certify maker.OutOfMemory e u → e ≡ maker.OutOfMemory
    → u ≡ make_error.OutOfMemory
told_memory e u (inl memory) is = memory.1
told_memory e u (inr step) is = absurd (step.0 is)

-- what is found of a profile and a filter is the evidence for the bundle and the filter's bytes
pub evidence_for : (native : Arch) (bundle filter : List ℕ) (policy : Policy) (p : List Insn) (e : Evidence)
    → AreJudged native bundle filter policy → IsClear policy.rules → p ≡ insns_of filter → IsEvidence policy p e
    → IsEvidenceFor native bundle filter e
evidence_for native bundle filter policy p (Certificate cert) judged clear same valid =
    (policy, judged.means, yes_of_valid policy p filter cert.items clear same judged.program judged.accepted valid)
evidence_for native bundle filter policy p (Refuting found) judged clear same refutes =
    (policy, judged, subst (λ (q : List Insn). IsCounterexample policy q found) same refutes)

-- a fault of the bundle
pub profile_open : (native : Arch) (bundle filter : List ℕ) (e : ProfileError) (u : MakeError)
    → IfSome (fault_of e) (Breaks bundle native) → IsToldAs make_error.Profile refusal.OutOfMemory e u → u ≢ make_error.OutOfMemory
    → IsOpen native bundle filter u
profile_open native bundle filter e u stands (inl memory) other = absurd (other memory.1)
profile_open native bundle filter e u stands (inr step) other =
    subst (λ (v : MakeError). IsOpen native bundle filter v) (sym step.1) (step.0, stands)

-- a bundle that means a profile has none
pub own_read : (native : Arch) (bundle : List ℕ) (policy : Policy) (e : ProfileError) (u : MakeError) → IsBundle native bundle policy
    → IfSome (fault_of e) (Breaks bundle native) → IsToldAs make_error.Profile refusal.OutOfMemory e u → u ≡ make_error.OutOfMemory
own_read native bundle policy e u means stands (inl memory) = memory.1
own_read native bundle policy e u means stands (inr step) =
    absurd (no_fault meaning_is_unbroken meaning_is_one native bundle policy e means step.0 stands)

module _ {S : Type 0} (held : S → Option (List ℕ)) (failures : S → Failures) (old new : S) where
  pub written_failed : (T : Type 0) (bytes : List ℕ) (fault : WriteFault) (result : Result Bool WriteFault)
      → WritesMade {S = S} {T = T} held failures old new bytes (Err fault) → result ≡ Err fault
      → IsWritten held failures old new bytes result
  written_failed T bytes fault result written e =
      let here : IsWritten held failures old new bytes (Err fault) =
      record { written = as_failed held failures old new T bytes fault written; told = tt } in
      subst (λ (r : Result Bool WriteFault). IsWritten held failures old new bytes r) (sym e) here

  module _ (native : Arch) (bundle filter : List ℕ) where
    -- a record that is found is told
    pub evidence_refuting : (evidence : Evidence) (found : Counterexample) (result : Result Bool WriteFault) → evidence ≡ Refuting found
        → IsEvidenceFor native bundle filter evidence → IsRecord (words found.call)
        → Tells held failures old new (words found.call) found.given found.said result
        → Certifies held failures old new native bundle filter result
    evidence_refuting evidence found result e is call told =
        let here : IsEvidenceFor native bundle filter (Refuting found) = subst (λ (x : Evidence). IsEvidenceFor native bundle filter x) e is in
        record_told held failures old new native bundle filter here.0 (insns_of filter) (words found.call) found.given found.said result
        here.1 refl call here.2 told

-- where the filter is right it gives the profile's verdict
right_is_not_refuted : (policy : Policy) (p : List Insn) (r : List ℕ) (given said : ℕ) → IsRight policy p → IsRecord r
    → Refutes policy p r given said → ⊥
right_is_not_refuted policy p r given said right is h =
    h.unlike (same_Some given said (sym h.gives ∙ (right r is said).1 h.says))

pub evidence_excludes : MeaningIsOne → EvidenceExcludes
evidence_excludes one native bundle filter cert rec given said found refuted =
    let same : found.0 ≡ refuted.policy = one_policy one native bundle found.0 refuted.policy found.1 refuted.judged.means in
    right_is_not_refuted refuted.policy (insns_of filter) (words_of rec) given said
    (subst (λ (q : Policy). IsRight q (insns_of filter)) same found.2.right) refuted.call.words refuted.refutes
