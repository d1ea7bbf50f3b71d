-- A certificate that keeps each rule breaks none.
use Rattle.std.proofs.Common.{◌≡◌, ℕ, List, refl, sym, ◌∙◌, subst}
use Rattle.std.specs.Prelude.{◌≢◌, None, Result, Ok, Err, IfOk}
use Rattle.bpf_insn.specs.declared.instruction.Insn.{Insn}
use Rattle.bpf_insn.specs.Bytes.{insns_of, view_fault}
use Rattle.kernel_check.specs.Accepted.{IsAccepted}
use Rattle.profile.specs.Policy.{Policy}
use Rattle.cert_form.proofs.SpellingLaws.{nodes_are}
use Rattle.cert_check.specs.declared.fault.CheckError.{CheckError}
use Rattle.cert_check.specs.declared.fault.CheckError.TheVariants.{View, Kernel, Form, Root, Edge, Entail, Return, Split, OutOfMemory}
use Rattle.cert_check.specs.Certified.{IsFirst, Kept}
use Rattle.cert_check.specs.Valid.{IsValidCertificate, ValidIsKept}
use Rattle.cert_check.proofs.FirstLaws.{all_kept}

pub kept : ValidIsKept
kept policy filter cert whole accepted (ns, spells, valid) =
    all_kept policy filter cert whole accepted ns spells (λ ms s. sym (nodes_are cert ns spells) ∙ nodes_are cert ms s) valid

-- an error that is no other is want of memory
no_other : (e : CheckError) → (e ≢ OutOfMemory → ⊥) → e ≡ OutOfMemory
no_other (View f) h = absurd (h (λ e. cc))
no_other (Kernel f) h = absurd (h (λ e. cc))
no_other (Form f) h = absurd (h (λ e. cc))
no_other Root h = absurd (h (λ e. cc))
no_other (Edge i) h = absurd (h (λ e. cc))
no_other (Entail i) h = absurd (h (λ e. cc))
no_other (Return i) h = absurd (h (λ e. cc))
no_other (Split i) h = absurd (h (λ e. cc))
no_other OutOfMemory h = refl

-- the bytes of a filter, and what was read from them
module _ (filter : List ℕ) {p : List Insn} (read : insns_of filter ≡ p) (taken : IsAccepted p) {T : Type 0} where
  pub accepted_at_yes : (r : Result T CheckError) → IfOk r (λ _. IsAccepted (insns_of filter))
  accepted_at_yes (Ok x) = subst IsAccepted (sym read) taken
  accepted_at_yes (Err e) = tt

module _ (policy : Policy) (filter cert : List ℕ) (p : List Insn) (read : insns_of filter ≡ p) (whole : view_fault filter
    ≡ None) (taken : IsAccepted p) where
  kept_of : IsValidCertificate policy p cert → (e : CheckError) → Kept policy filter cert e
  kept_of valid =
      kept policy filter cert whole (subst IsAccepted (sym read) taken)
      (subst (λ (q : List Insn). IsValidCertificate policy q cert) (sym read) valid)

  -- a rule that is broken first is none that a valid certificate keeps
  pub only_memory : (e : CheckError) → (e ≢ OutOfMemory → IsFirst policy filter cert e) → IsValidCertificate policy p cert
      → e ≡ OutOfMemory
  only_memory e first valid = no_other e (λ other. (first other).broken (kept_of valid e))

  -- with a yes no rule is broken
  pub kept_at_yes : {T : Type 0} (r : Result T CheckError) → IfOk r (λ _. IsValidCertificate policy p cert)
      → IfOk r (λ _. (e : CheckError) → Kept policy filter cert e)
  kept_at_yes (Ok x) valid = kept_of valid
  kept_at_yes (Err e) valid = tt
