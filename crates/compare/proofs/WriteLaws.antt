-- What is written of a filter behind a stub.
use Rattle.std.proofs.Common.{◌≡◌, ◌∙◌, ℕ, List, [], refl, sym, subst, inl, inr}
use Rattle.std.proofs.lemmas.Option.{same_Some}
use Rattle.std.specs.Prelude.{Bool, true, false, Option, Result, Ok, Err}
use Rattle.bpf_insn.specs.Bytes.{insns_of}
use Rattle.call_record.proofs.RecordLemmas.{words-is_record}
use Rattle.call_record.specs.Record.{words}
use Rattle.machines.specs.declared.arch.Arch.{Arch}
use Rattle.cert_check.specs.Right.{IsRight}
use Rattle.maker.specs.declared.evidence.evidence.Counterexample.{Counterexample}
use Rattle.maker.specs.declared.evidence.evidence.Evidence.{Evidence}
use Rattle.maker.specs.declared.evidence.evidence.Evidence.TheVariants.{Certificate, Refuting}
use Rattle.maker.specs.Certified.{Certifies, CertifiesOwn, IsEvidenceFor, IsJudgement, IsOwnJudgement, WritesCounterexample}
use Rattle.maker.specs.Exported.{LacksMemory, Refuses}
use Rattle.maker.specs.Told.{Tells}
use Rattle.maker.specs.declared.make_error.MakeError.{MakeError}
use Rattle.maker.specs.Finding.{IsBundle}
use Rattle.profile.specs.Policy.{Policy}
use Rattle.profile_json.proofs.unbroken.Unbroken.{meaning_is_one}
use Rattle.profile_json.specs.Meaning.{Means}
use Rattle.serde_json.specs.Data.{Data}
use Rattle.rule_compile.proofs.RulesLaws.{any_nil}
use Rattle.texts.specs.Failures.{Failures}
use Rattle.texts.specs.Sink.{WritesMade}
use Rattle.texts.specs.declared.streams.fault.WriteFault.{WriteFault}
use Rattle.compare.specs.declared.behind_runc.stub.calls.Calls.{Calls}
use Rattle.compare.specs.Behind.{IsBehind, IsFound, IsJudgedBehind, IsNoCounterexample, MeansRight, MeansSparing, WritesBehind}
use Rattle.compare.specs.Spared.{IsRightBehind, Spares}
use Rattle.compare.specs.Stub.{IsOf}
use Rattle.compare.proofs.RightLaws.{spared_is_right}

-- what is judged where there is evidence
abbrev judged_as : Evidence → Result Evidence MakeError
judged_as evidence = Ok evidence

-- a bundle means one profile
pub one_policy : (native : Arch) (bundle : List ℕ) (p q : Policy) → IsBundle native bundle p → IsBundle native bundle q → p ≡ q
one_policy native bundle p q h g =
    let same : h.0 ≡ g.0 = same_Some h.0 g.0 (sym h.1.1 ∙ g.1.1) in
    meaning_is_one g.0 native p q (subst (λ (t : Data). Means t native p) same h.2) g.2

-- a filter that is right is right behind no stub
pub whole_is_right : (policy : Policy) (filter : List ℕ) → IsRight policy (insns_of filter) → IsRightBehind policy (insns_of filter) []
whole_is_right policy filter right = record {
  others = λ r is passes v. right r is v;
  answers = λ r is h. absurd (any_nil (IsOf r) h);
  refused = λ r is h. absurd (any_nil (IsOf r) h);
}

module _ (native : Arch) (bundle filter rest : List ℕ) (answered : List Calls) where
  -- where the rest is right, and the bundle spares what the stub answers, the whole filter is right but for that
  rest_is_right : (policy : Policy) → IsBehind filter rest answered → IsRight policy (insns_of rest) → Spares policy answered
      → IsRightBehind policy (insns_of filter) answered
  rest_is_right policy (inl has) right spares =
      spared_is_right policy (insns_of filter) (insns_of rest) answered has.stub right spares
  rest_is_right policy (inr whole) right spares =
      subst (λ (calls : List Calls). IsRightBehind policy (insns_of filter) calls) (sym whole.1)
      (whole_is_right policy filter (subst (λ (f : List ℕ). IsRight policy (insns_of f)) whole.0 right))

  pub means_right : IsBehind filter rest answered → MeansSparing native bundle answered → (evidence : Evidence)
      → IsEvidenceFor native bundle rest evidence → IsNoCounterexample (Ok evidence) → MeansRight native bundle filter answered
  means_right behind (policy, means, spares) (Certificate cert) is none =
      let same = one_policy native bundle is.0 policy is.1 means in (
        policy,
        means,
        rest_is_right policy behind (subst (λ (p : Policy). IsRight p (insns_of rest)) same is.2.right) spares,
      )
  means_right behind sparing (Refuting found) is none = absurd none

module _ {S : Type 0} (held : S → Option (List ℕ)) (failures : S → Failures) (old new : S) (native : Arch) (bundle filter rest : List ℕ)
    (answered : List Calls) (result : Result Bool WriteFault) where
  -- the line of a record that refutes the whole filter
  counterexample_told : (found : Counterexample) → IsEvidenceFor native bundle filter (Refuting found)
      → Tells held failures old new (words found.call) found.given found.said result
      → WritesBehind held failures old new native bundle filter rest answered false result
  counterexample_told found is (inl h) =
      inl (record {
        rec = h.is.rec;
        given = found.given;
        said = found.said;
        is = record {
          policy = is.0;
          judged = is.1;
          call = record { size = h.is.size; bytes = h.is.bytes; words = rw h.is.same (words-is_record found.call) };
          refutes = rw h.is.same is.2;
        };
        written = subst (λ (bytes : List ℕ). WritesMade held failures old new bytes result) h.is.is h.written;
        told = h.told;
      })
  counterexample_told found is (inr lacks) = inr (inr (inr lacks))

  -- of the reason why there is neither
  module _ (make_error : MakeError) where
    pub of_error : (whole : Bool) → IsJudgedBehind native bundle filter rest answered whole (Err make_error)
        → Refuses held failures old new make_error result → WritesBehind held failures old new native bundle filter rest answered whole result
    of_error true is (inl refused) =
        inr (inr (inl (record { make_error = make_error; is = is refused.0; written = refused.1; told = refused.2 })))
    of_error true is (inr lacks) = inr (inr (inr lacks))
    of_error false (inl found) refused = absurd found.1
    of_error false (inr behind) (inl refused) =
        inr (inr (inl (record { make_error = make_error; is = behind.0 refused.0; written = refused.1; told = refused.2 }, behind.2)))
    of_error false (inr behind) (inr lacks) = inr (inr (inr lacks))

  -- of the evidence
  module _ (behind : IsBehind filter rest answered) where
    certified : CertifiesOwn held failures old new native bundle rest result → MeansRight native bundle filter answered
        → WritesBehind held failures old new native bundle filter rest answered false result
    certified (inl certificate) right = inr (inl (certificate, right))
    certified (inr lacks) right = inr (inr (inr lacks))

    of_evidence : (whole : Bool) (evidence : Evidence)
        → ((n : Arch) (b f : List ℕ) → IsJudgement n b f (Ok evidence) → Certifies held failures old new n b f result)
        → ((n : Arch) (b f : List ℕ) → IsJudgement n b f (Ok evidence) → IsOwnJudgement (Ok evidence)
        → CertifiesOwn held failures old new n b f result)
        → ((found : Counterexample) → judged_as evidence ≡ Ok (Refuting found)
        → Tells held failures old new (words found.call) found.given found.said result)
        → IsJudgedBehind native bundle filter rest answered whole (Ok evidence)
        → WritesBehind held failures old new native bundle filter rest answered whole result
    of_evidence true evidence found own told is = found native bundle filter is
    of_evidence false (Refuting counterexample) found own told (inl is) = counterexample_told counterexample is.0 (told counterexample refl)
    of_evidence false (Refuting counterexample) found own told (inr is) = absurd is.1
    of_evidence false (Certificate cert) found own told (inl is) = absurd (is.1 tt)
    of_evidence false (Certificate cert) found own told (inr is) =
        certified (own native bundle rest is.0 tt) (means_right native bundle filter rest answered behind is.2 (Certificate cert) is.0 tt)

    -- the same of what is judged, which is this evidence
    abbrev FromJudged : Bool → Result Evidence MakeError → Type 0
    FromJudged whole judged =
        ((n : Arch) (b f : List ℕ) → IsJudgement n b f judged → Certifies held failures old new n b f result)
        → ((n : Arch) (b f : List ℕ) → IsJudgement n b f judged → IsOwnJudgement judged
        → CertifiesOwn held failures old new n b f result)
        → ((found : Counterexample) → judged ≡ Ok (Refuting found)
        → Tells held failures old new (words found.call) found.given found.said result)
        → IsJudgedBehind native bundle filter rest answered whole judged
        → WritesBehind held failures old new native bundle filter rest answered whole result

    pub of_judged : (whole : Bool) (judged : Result Evidence MakeError) (evidence : Evidence) → judged ≡ Ok evidence
        → FromJudged whole judged
    of_judged whole judged evidence same = subst (FromJudged whole) (sym same) (of_evidence whole evidence)
