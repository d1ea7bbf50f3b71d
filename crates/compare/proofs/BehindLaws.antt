-- What refutes the rest behind a stub, beside the whole filter.
use Rattle.std.proofs.Common.{◌≡◌, ◌≢◌, ◌↔◌, ◌==◌, ℕ, List, Bool, false, true, sym, ◌∙◌, subst, inl, inr}
use Rattle.std.specs.Prelude.{IsTrue}
use Rattle.call_record.specs.Record.{words}
use Rattle.call_record.specs.Words.{IsRecord}
use Rattle.machines.specs.declared.arch.Arch.{Arch}
use Rattle.maker.specs.declared.evidence.evidence.Counterexample.{Counterexample}
use Rattle.maker.specs.declared.evidence.evidence.Evidence.TheVariants.{Refuting}
use Rattle.maker.specs.Certified.{IsEvidenceFor}
use Rattle.compare.specs.declared.behind_runc.stub.calls.Calls.{Calls}
use Rattle.compare.specs.Stub.{IsAnswered, IsOf, enosys}
use Rattle.rule_compile.proofs.RulesLaws.{any_nil}
use Rattle.compare.specs.Behind.{IsBehind}

abbrev IsNo : Bool → Type 0
IsNo true = ⊥
IsNo false = Unit {0}

-- what is told of whether a stub answers a record
module _ (answered calls : List Calls) (r : List ℕ) (told : Bool) (iff : IsTrue told ↔ IsAnswered calls r) (same : calls ≡ answered) where
  pub is_told : told ≡ true → IsAnswered answered r
  is_told e = subst (λ (some : List Calls). IsAnswered some r) same (iff.0 e)

  pub not_told : told ≡ false → IsAnswered answered r → ⊥
  not_told e h = subst IsNo (sym e ∙ iff.1 (subst (λ (some : List Calls). IsAnswered some r) (sym same) h)) tt

-- a verdict that is not ENOSYS
pub other_than : (n : ℕ) (told : Bool) → told ≡ (n == enosys) → told ≡ false → n ≢ enosys
other_than n told is unlike e = subst IsNo (sym (subst (λ m. (m == enosys) ≡ false) e (sym is ∙ unlike))) tt

module _ (native : Arch) (bundle filter rest : List ℕ) (answered : List Calls) (found : Counterexample) (is : IsRecord (words found.call)) where
  -- a record that the stub does not answer refutes the whole
  pub passed : IsBehind filter rest answered → (IsAnswered answered (words found.call) → ⊥)
      → IsEvidenceFor native bundle rest (Refuting found) → IsEvidenceFor native bundle filter (Refuting found)
  passed (inl has) passes evidence = (
    evidence.0,
    record { means = evidence.1.means; program = has.filter_is.program; accepted = has.filter_is.accepted },
    record {
      gives = has.stub.others (words found.call) is passes ∙ evidence.2.gives;
      says = evidence.2.says;
      unlike = evidence.2.unlike;
    },
  )
  passed (inr whole) passes evidence = subst (λ (f : List ℕ). IsEvidenceFor native bundle f (Refuting found)) whole.0 evidence

  -- one that it answers refutes the whole by the answer, if the bundle says another verdict
  pub stopped : IsBehind filter rest answered → IsAnswered answered (words found.call) → found.said ≢ enosys
      → IsEvidenceFor native bundle rest (Refuting found)
      → IsEvidenceFor native bundle filter (Refuting (record { call = found.call; given = enosys; said = found.said }))
  stopped (inl has) h other evidence = (
    evidence.0,
    record { means = evidence.1.means; program = has.filter_is.program; accepted = has.filter_is.accepted },
    record {
      gives = has.stub.answers (words found.call) is h;
      says = evidence.2.says;
      unlike = λ same. other (sym same);
    },
  )
  stopped (inr whole) h other evidence =
      absurd (any_nil (IsOf (words found.call)) (subst (λ (calls : List Calls). IsAnswered calls (words found.call)) whole.1 h))
