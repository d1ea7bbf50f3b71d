-- What is judged of the filter that is made of another says what is so of that one.
use Rattle.std.proofs.Common.{◌≡◌, ◌∙◌, ℕ, List, ap, refl, subst, sym, inl, inr}
use Rattle.std.specs.Prelude.{◌⊎◌, None, Some, Result, Ok, Err, IfOk}
use Rattle.std.proofs.lemmas.Bool.{cases_Bool}
use Rattle.std.proofs.lemmas.Bool.Decides.{not_from_Decides}
use Rattle.std.proofs.lemmas.Option.{same_Some}
use Rattle.bpf_insn.specs.declared.instruction.Insn.{Insn}
use Rattle.bpf_insn.specs.Bytes.{insns_of, view_fault}
use Rattle.bpf_insn.specs.Machine.{verdict_of}
use Rattle.call_record.specs.Verdict.{allow}
use Rattle.call_record.specs.Words.{IsRecord}
use Rattle.machines.specs.declared.arch.Arch.{Arch}
use Rattle.kernel_check.specs.Accepted.{IsAccepted}
use Rattle.profile.specs.Policy.{IsNative, Policy, Says}
use Rattle.profile.specs.Said.{is_native}
use Rattle.profile.proofs.SaidLaws.{Decides-is_native}
use Rattle.profile_json.proofs.unbroken.Unbroken.{meaning_is_one}
use Rattle.profile_json.specs.Meaning.{Means}
use Rattle.serde_json.specs.Data.{Data}
use Rattle.cert_check.specs.Right.{IsRight}
use Rattle.maker.specs.Certified.{IsJudgement}
use Rattle.maker.specs.Finding.{IsBundle}
use Rattle.maker.specs.declared.evidence.evidence.Evidence.{Evidence}
use Rattle.maker.specs.declared.evidence.evidence.Evidence.TheVariants.{Certificate, Refuting}
use Rattle.maker.specs.declared.make_error.MakeError.{MakeError}
use Rattle.recover_others.specs.Guarded.{IsGuarded}
use Rattle.recover_others.specs.RecoveredOthers.{IsCertified, IsRightAllowing, MeansAllowing, SaysAllowing}

-- a bundle means one profile
one_policy : (native : Arch) (bundle : List ℕ) (p q : Policy) → IsBundle native bundle p → IsBundle native bundle q → p ≡ q
one_policy native bundle p q h g =
    let same : h.0 ≡ g.0 = same_Some h.0 g.0 (sym h.1.1 ∙ g.1.1) in
    meaning_is_one g.0 native p q (subst (λ (t : Data). Means t native p) same h.2) g.2

-- ---- one filter in place of the other

native_or_not : (p : Policy) (r : List ℕ) → IsNative p r ⊎ (¬ IsNative p r)
native_or_not p r = elim (cases_Bool (is_native p r)) [
  | inl is ↦ inl ((Decides-is_native p r).0 is)
  | inr alien ↦ inr (not_from_Decides (is_native p r) (Decides-is_native p r) alien)
]

module _ (policy : Policy) (program made : List Insn) (guarded : IsGuarded policy.machines program made) (right : IsRight policy made) where
  killed : (r : List ℕ) → ¬ IsNative policy r → Says policy r 0
  killed r none = record {
    foreign = λ _. refl;
    matched = λ native. absurd (none native);
    unmatched = λ native. absurd (none native);
  }

  allowed : (r : List ℕ) → IsRecord r → ¬ IsNative policy r → verdict_of program r ≡ Some allow
  allowed r rec none = (guarded.others r rec none).0 ((right r rec 0).1 (killed r none))

  says : (r : List ℕ) → IsRecord r → (v : ℕ) → verdict_of program r ≡ Some v → SaysAllowing policy r v
  says r rec v given = record {
    own = λ native. (right r rec v).0 (guarded.own r rec native ∙ given);
    other = λ none. same_Some v allow (sym given ∙ allowed r rec none);
  }

  gives : (r : List ℕ) → IsRecord r → (v : ℕ) → SaysAllowing policy r v → verdict_of program r ≡ Some v
  gives r rec v h = elim (native_or_not policy r) [
    | inl native ↦ sym (guarded.own r rec native) ∙ (right r rec v).1 (h.own native)
    | inr none ↦ allowed r rec none ∙ ap Some (sym (h.other none))
  ]

  pub right_allowing : IsRightAllowing policy program
  right_allowing r rec v = (says r rec v, gives r rec v)

-- ---- what was judged

is_yes : (native : Arch) (bundle made : List ℕ) (judged : Result Evidence MakeError) → IsCertified judged → IsJudgement native bundle made judged
    → (policy : Policy) × IsBundle native bundle policy × IsRight policy (insns_of made)
is_yes native bundle made (Ok (Certificate bytes)) certified is = (is.0, is.1, is.2.right)
is_yes native bundle made (Ok (Refuting found)) certified is = absurd certified
is_yes native bundle made (Err e) certified is = absurd certified

pub means_allowing : (native : Arch) (bundle filter made : List ℕ) (policy : Policy) → IsBundle native bundle policy
    → view_fault filter ≡ None → IsAccepted (insns_of filter) → IsGuarded policy.machines (insns_of filter) (insns_of made)
    → (judged : Result Evidence MakeError) → IsCertified judged → IsJudgement native bundle made judged → MeansAllowing native bundle filter
means_allowing native bundle filter made policy means program accepted guarded judged certified is =
    let yes = is_yes native bundle made judged certified is in
    let right : IsRight policy (insns_of made) =
    subst (λ (p : Policy). IsRight p (insns_of made)) (one_policy native bundle yes.0 policy yes.1 means) yes.2 in
    record {
      policy = policy;
      means = means;
      program = program;
      accepted = accepted;
      right = right_allowing policy (insns_of filter) (insns_of made) guarded right;
    }

pub if_ok : {A E : Type 0} → (result : Result A E) (P Q : A → Type 0) → ((a : A) → P a → Q a) → IfOk result P → IfOk result Q
if_ok (Ok a) P Q f h = f a h
if_ok (Err e) P Q f h = tt
