-- What is judged of a filter, by what is judged of one that is the same on all records but those of some calls.
use Rattle.std.proofs.Common.{◌≡◌, ◌≢◌, ◌↔◌, ◌∙◌, ℕ, List, [], ◌∷◌, ◌++◌, ap, inl, inr, refl, subst, sym}
use Rattle.std.specs.Prelude.{Bool, true, false, Option, Some, Result, Ok, Err, IfSome, None}
use Rattle.bpf_insn.specs.declared.instruction.Insn.{Insn}
use Rattle.bpf_insn.specs.Bytes.{insns_of}
use Rattle.call_record.specs.Record.{words}
use Rattle.call_record.specs.Words.{IsRecord}
use Rattle.machines.specs.declared.arch.Arch.{Arch}
use Rattle.machines.specs.declared.arch.Family.{Family}
use Rattle.machines.specs.Arch.{family_of}
use Rattle.cert_check.specs.Right.{IsRight}
use Rattle.maker.specs.declared.evidence.evidence.Counterexample.{Counterexample}
use Rattle.maker.specs.declared.evidence.evidence.Evidence.{Evidence}
use Rattle.maker.specs.declared.evidence.evidence.Evidence.TheVariants.{Certificate, Refuting}
use Rattle.maker.specs.declared.make_error.MakeError.{MakeError}
use Rattle.maker.specs.declared.make_error.MakeError.TheVariants.{Profile, Compile, Certify, Check, OutOfMemory}
use Rattle.maker.specs.Certified.{IsJudgement}
use Rattle.maker.specs.Finding.{IsBundle}
use Rattle.profile.specs.Policy.{Policy, Says}
use Rattle.rule_compile.proofs.RulesLaws.{any_either, any_left, any_nil, any_right}
use Rattle.compare.specs.declared.behind_runc.stub.calls.Calls.{Calls}
use Rattle.compare.specs.Behind.{IsBehind, IsJudgedBehind}
use Rattle.compare.specs.Counterexamples.{Refutes}
use Rattle.compare.specs.Spared.{Spares}
use Rattle.compare.specs.Stub.{IsAnswered, IsOf}
use Rattle.compare.proofs.RightLaws.{left}
use Rattle.compare.proofs.WriteLaws.{one_policy}
use Rattle.aside.specs.Aside.{IsAside, IsRightBut}
use Rattle.aside.specs.declared.leave.Leave.{Leave}
use Rattle.aside.specs.Judged.{RefutesBut, IsJudged, IsJudgedBut, IsLeftOut, IsOpenBut, MeansRightBut, stub_calls}
use Rattle.aside.specs.Named.{MayBeAside}
use Rattle.aside.specs.inner.Front.{IsSameBut}
use Rattle.aside.specs.inner.Lead.{AreTaken, IsUndecided, Leads}

-- ---- one filter in place of the other

right_too : (policy : Policy) (p q : List Insn) (aside : List Calls) → IsSameBut aside p q → IsRight policy p → IsRightBut policy q [] aside
right_too policy p q aside same right = record {
  others = λ r is kept passed v. subst (λ (given : Option ℕ). (given ≡ Some v) ↔ Says policy r v) (same r is kept 0) (right r is v);
  answers = λ r is h. absurd (any_nil (IsOf r) h);
  refused = λ r is h. absurd (any_nil (IsOf r) h);
}

pub open_of : (native : Arch) (bundle filter : List ℕ) (e : MakeError) → AreTaken native bundle filter → IsUndecided e → e ≢ OutOfMemory
    → IsOpenBut native bundle filter e
open_of native bundle filter (Certify e) taken is ne = (is, taken)
open_of native bundle filter (Profile e) taken is ne = is
open_of native bundle filter (Compile e) taken is ne = is
open_of native bundle filter (Check e) taken is ne = is
open_of native bundle filter OutOfMemory taken is ne = absurd (ne refl)

module _ (native : Arch) (bundle same filter : List ℕ) (aside : List Calls) (taken : AreTaken native bundle filter)
    (is_same : IsSameBut aside (insns_of same) (insns_of filter)) where
  pub refutes_too : (found : Counterexample) → IsRecord (words found.call) → (IsAside aside (words found.call) → ⊥)
      → Refutes native bundle same found → RefutesBut native bundle filter [] aside found
  refutes_too found is kept evidence = record {
    refutes = (
      evidence.0,
      record { means = evidence.1.means; program = taken.1.program; accepted = taken.1.accepted },
      record {
        gives = sym (is_same (words found.call) is kept 0) ∙ evidence.2.gives;
        says = evidence.2.says;
        unlike = evidence.2.unlike;
      },
    );
    kept = kept;
    passed = λ h. absurd (any_nil (IsOf (words found.call)) h);
  }

  pub means_too : (bytes : _) → IsJudgement native bundle same (Ok (Certificate bytes)) → MeansRightBut native bundle filter [] aside
  means_too bytes is = (is.0, is.1, right_too is.0 (insns_of same) (insns_of filter) aside is_same is.2.right)

-- ---- with a stub in front

module _ (native : Arch) (bundle filter rest : List ℕ) (answered aside : List Calls) (behind : IsBehind filter rest answered) where
  gives_enosys : IsBehind filter rest answered → (r : List ℕ) → IsRecord r → IsAnswered answered r
      → Rattle.bpf_insn.specs.Machine.verdict_of (insns_of filter) r ≡ Some Rattle.compare.specs.Stub.enosys
  gives_enosys (inl has) r is h = has.stub.answers r is h
  gives_enosys (inr whole) r is h =
      absurd (any_nil (IsOf r) (subst (λ (calls : List Calls). IsAnswered calls r) whole.1 h))

  right_joined : (policy : Policy) → Spares policy answered → IsRightBut policy (insns_of filter) [] (answered ++ aside)
      → IsRightBut policy (insns_of filter) answered aside
  right_joined policy spares right = record {
    others = λ r is kept passed.
        right.others r is
        (λ h. elim (any_either (IsOf r) answered aside h) [ inl early ↦ passed early | inr late ↦ kept late ])
        (λ h. any_nil (IsOf r) h);
    answers = gives_enosys behind;
    refused = λ r is h. (left policy answered spares r h, spares.mild);
  }

  pub joined_judged : (policy : Policy) → IsBundle native bundle policy → Spares policy answered → (judged : Result Evidence MakeError)
      → IsJudgedBut native bundle filter [] (answered ++ aside) judged → IsJudgedBut native bundle filter answered aside judged
  joined_judged policy means spares (Ok (Certificate bytes)) right =
      let same : right.0 ≡ policy = one_policy native bundle right.0 policy right.1 means in (
        policy,
        means,
        right_joined policy spares
            (subst (λ (p : Policy). IsRightBut p (insns_of filter) [] (answered ++ aside)) same right.2),
      )
  joined_judged policy means spares (Ok (Refuting found)) is = record {
    refutes = is.refutes;
    kept = λ h. is.kept (any_right (IsOf (words found.call)) answered aside h);
    passed = λ h. is.kept (any_left (IsOf (words found.call)) answered aside h);
  }
  joined_judged policy means spares (Err e) is = is

-- ---- what was found

abbrev pub judged_as : Evidence → Result Evidence MakeError
judged_as evidence = Ok evidence

pub ok_of : (judged : Result Evidence MakeError) (e found : Evidence) → judged ≡ judged_as e → e ≡ found → judged ≡ judged_as found
ok_of judged e found is same = is ∙ ap judged_as same

pub leads_of : (family : Family) (leave : Leave) (judged : Result Evidence MakeError) (found : Counterexample) → judged ≡ judged_as (Refuting found)
    → (o : Option Calls) → IfSome o (MayBeAside family leave) → IfSome o (IsOf (words found.call)) → IfSome o (Leads family leave judged)
leads_of family leave judged found is None may is_of = tt
leads_of family leave judged found is (Some calls) may is_of = record { may = may; found = found; is = is; is_of = is_of }

not_empty : (c : Calls) (more : List Calls) → c ∷ more ≢ []
not_empty c more e = cc

pub pushed_some : (aside : List Calls) (c : Calls) → aside ++ c ∷ [] ≢ []
pushed_some [] c e = cc
pushed_some (first ∷ aside) c e = cc

module _ (native : Arch) (bundle filter rest : List ℕ) (answered : List Calls) (leave : Leave) where
  of_behind : (whole : Bool) (found : Counterexample) → IsJudgedBehind native bundle filter rest answered whole (Ok (Refuting found))
      → Refutes native bundle filter found
  of_behind true found is = is
  of_behind false found (inl is) = is.0
  of_behind false found (inr is) = absurd is.1

  -- a record that was found refutes the filter
  pub refuted : (aside : List Calls) (whole : Bool) (judged : Result Evidence MakeError)
      → IsJudged native bundle filter rest answered leave aside whole judged
      → (found : Counterexample) → judged ≡ judged_as (Refuting found) → Refutes native bundle filter found
  refuted [] whole judged is found e =
      of_behind whole found
      (subst (λ (j : Result Evidence MakeError). IsJudgedBehind native bundle filter rest answered whole j) e (is.all refl))
  refuted (c ∷ more) whole judged is found e =
      let but : IsJudgedBut native bundle filter (stub_calls whole answered) (c ∷ more) (Ok (Refuting found)) =
      subst (λ (j : Result Evidence MakeError). IsJudgedBut native bundle filter (stub_calls whole answered) (c ∷ more) j) e
      (is.but (not_empty c more)) in
      but.refutes

  -- the calls that it leads to are left aside with reason, and the filter is judged beside a profile
  pub left_out : (aside : List Calls) (whole : Bool) (judged : Result Evidence MakeError)
      → IsJudged native bundle filter rest answered leave aside whole judged
      → (calls : Calls) → Leads (family_of native) leave judged calls → IsLeftOut native bundle filter leave calls
  left_out aside whole judged is calls leads = record {
    may = leads.may;
    found = leads.found;
    refutes = refuted aside whole judged is leads.found leads.is;
    is_of = leads.is_of;
  }

  pub taken_of : (aside : List Calls) (whole : Bool) (judged : Result Evidence MakeError)
      → IsJudged native bundle filter rest answered leave aside whole judged
      → (calls : Calls) → Leads (family_of native) leave judged calls → AreTaken native bundle filter
  taken_of aside whole judged is calls leads =
      let evidence = refuted aside whole judged is leads.found leads.is in (evidence.0, evidence.1)
