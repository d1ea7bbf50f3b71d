-- A filter that was judged to be right but for calls is one of which a bundle was made.
use Rattle.std.proofs.Common.{◌≡◌, ℕ, List, [], ◌∷◌, inl, inr, refl, subst}
use Rattle.std.specs.Prelude.{Bool, true, false, Result, Ok, Err}
use Rattle.bpf_insn.specs.Bytes.{insns_of}
use Rattle.machines.specs.declared.arch.Arch.{Arch}
use Rattle.machines.specs.declared.arch.Family.{Family}
use Rattle.maker.specs.declared.evidence.evidence.Evidence.{Evidence}
use Rattle.maker.specs.declared.evidence.evidence.Evidence.TheVariants.{Certificate, Refuting}
use Rattle.maker.specs.declared.make_error.MakeError.{MakeError}
use Rattle.profile.specs.Policy.{Policy}
use Rattle.compare.specs.declared.behind_runc.stub.calls.Calls.{Calls}
use Rattle.compare.specs.Behind.{AreAccepted, IsBehind, IsJudgedBehind}
use Rattle.compare.specs.Spared.{IsRightBehind}
use Rattle.compare.proofs.WriteLaws.{means_right, whole_is_right}
use Rattle.aside.specs.declared.leave.Leave.{Leave}
use Rattle.aside.specs.Aside.{IsRightBut}
use Rattle.aside.specs.Judged.{IsJudged, MeansRightBut, stub_calls}
use Rattle.aside.specs.RecoveredBut.{IsCertified, IsRecoveredBut, lines_of}

-- the filter is accepted if what stands behind its stub is
pub accepted_too : (filter rest : List ℕ) (answered : List Calls) → IsBehind filter rest answered → AreAccepted rest → AreAccepted filter
accepted_too filter rest answered (inl has) is = has.filter_is
accepted_too filter rest answered (inr whole) is = subst AreAccepted whole.0 is

-- a filter that is right but for its stub is so where no call is left aside
right_of : (policy : Policy) (filter : List ℕ) (answered : List Calls) → IsRightBehind policy (insns_of filter) answered
    → IsRightBut policy (insns_of filter) answered []
right_of policy filter answered right = record {
  others = λ r is kept passed v. right.others r is passed v;
  answers = right.answers;
  refused = right.refused;
}

module _ (native : Arch) (bundle filter rest : List ℕ) (answered : List Calls) (behind : IsBehind filter rest answered) where
  means_all : (whole : Bool) (bytes : _) → IsJudgedBehind native bundle filter rest answered whole (Ok (Certificate bytes))
      → MeansRightBut native bundle filter (stub_calls whole answered) []
  means_all true bytes is = (is.0, is.1, right_of is.0 filter [] (whole_is_right is.0 filter is.2.right))
  means_all false bytes (inl is) = absurd (is.1 tt)
  means_all false bytes (inr is) =
      let right = means_right native bundle filter rest answered behind is.2 (Certificate bytes) is.0 tt in
      (right.0, right.1, right_of right.0 filter answered right.2)

  -- so is one that is judged to have a certificate
  module _ (leave : Leave) (accepted : AreAccepted rest) where
    of_certificate : (aside : List Calls) (whole : Bool) (bytes : _)
        → IsJudged native bundle filter rest answered leave aside whole (Ok (Certificate bytes))
        → IsRecoveredBut native bundle filter leave (stub_calls whole answered) aside
    of_certificate [] whole bytes is = record {
      accepted = accepted_too filter rest answered behind accepted;
      left = is.left;
      right = means_all whole bytes (is.all refl);
    }
    of_certificate (c ∷ more) whole bytes is = record {
      accepted = accepted_too filter rest answered behind accepted;
      left = is.left;
      right = is.but (λ e. cc);
    }

    pub recovered_by : (aside : List Calls) (whole : Bool) (judged : Result Evidence MakeError) → IsCertified judged
        → IsJudged native bundle filter rest answered leave aside whole judged
        → IsRecoveredBut native bundle filter leave (stub_calls whole answered) aside
    recovered_by aside whole (Ok (Certificate bytes)) certified is = of_certificate aside whole bytes is
    recovered_by aside whole (Ok (Refuting found)) certified is = absurd certified
    recovered_by aside whole (Err e) certified is = absurd certified

-- what is told of calls is told by the family of the machine
pub lines_told : (family named : Family) → family ≡ named → (runc : Bool) (size : ℕ) (answered : List Calls) (whole : Bool)
    (aside left : List Calls) → left ≡ aside → (lines : List ℕ) → lines ≡ lines_of family runc size answered whole left
    → lines ≡ lines_of named runc size answered whole aside
lines_told family named same runc size answered whole aside left is lines told =
    subst (λ (f : Family). lines ≡ lines_of f runc size answered whole aside) same
    (subst (λ (calls : List Calls). lines ≡ lines_of family runc size answered whole calls) is told)
