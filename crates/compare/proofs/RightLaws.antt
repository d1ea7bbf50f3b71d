-- A filter behind a stub whose calls a profile spares is right but for these calls, if the filter behind the stub is right.
use Rattle.std.proofs.Common.{◌≡◌, ◌↔◌, ℕ, List, Option, inl, inr, refl, subst, sym}
use Rattle.std.specs.Prelude.{Some}
use Rattle.std.specs.List.{All, Contains}
use Rattle.bpf_insn.specs.declared.instruction.Insn.{Insn}
use Rattle.call_record.specs.Words.{IsRecord, word}
use Rattle.cert_check.specs.Right.{IsRight}
use Rattle.profile.specs.declared.rules.Rule.{Rule}
use Rattle.profile.specs.Policy.{IsNative, Policy, Says}
use Rattle.profile.specs.Rule.{Matches}
use Rattle.compare.specs.declared.behind_runc.stub.calls.Calls.{Calls}
use Rattle.compare.specs.Spared.{AreSpared, IsBeyond, IsLeft, IsRightBehind, IsSpared, Spares}
use Rattle.compare.specs.Stub.{IsAnswered, IsStub}

-- a number beyond all rules gets the default
module _ (policy : Policy) (r : List ℕ) (native : IsNative policy r) (beyond : All (IsBeyond (word r 1) (word r 0)) policy.rules) where
  none : (rule : Rule) → Contains policy.rules rule → Matches rule r → ⊥
  none rule (k, lt, at) m =
      (subst (IsBeyond (word r 1) (word r 0)) at (beyond k rule lt)).other (sym m.machine) (sym m.number)

  gets_default : Says policy r policy.default_word
  gets_default = record {
    foreign = λ not. absurd (not native);
    matched = λ same rule contains m. absurd (none rule contains m);
    unmatched = λ same all. refl;
  }

module _ (policy : Policy) (answered : List Calls) (spares : Spares policy answered) where
  spared : (r : List ℕ) → IsAnswered answered r → IsSpared policy (word r 1) (word r 0)
  spared r (k, calls, lt, at, of) =
      let here : AreSpared policy calls = subst (AreSpared policy) at (spares.all k calls lt) in
      subst (λ (token : ℕ). IsSpared policy token (word r 0)) (sym of.0) (here.each (word r 0) of.1)

  -- a record that the stub answers gets the default, or is no call
  pub left : (r : List ℕ) → IsAnswered answered r → IsLeft policy r
  left r h =
      let here = spared r h in
      elim here.listed [ inl native ↦ inl (gets_default policy r native here.beyond) | inr none ↦ inr none ]

module _ (policy : Policy) (p rest : List Insn) (answered : List Calls) (stub : IsStub p rest answered) (right : IsRight policy rest)
    (spares : Spares policy answered) where
  pub spared_is_right : IsRightBehind policy p answered
  spared_is_right = record {
    others = λ r is passes v.
        subst (λ (given : Option ℕ). (given ≡ Some v) ↔ Says policy r v) (sym (stub.others r is passes)) (right r is v);
    answers = stub.answers;
    refused = λ r is h. (left policy answered spares r h, spares.mild);
  }
