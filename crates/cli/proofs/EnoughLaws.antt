-- What is judged of the bytes that are read of a file is so of the file's own.
use Rattle.std.proofs.Common.{◌≡◌, ℕ, ◌+◌, ◌<◌, ◌≤◌, ◌%◌, ◌⊎◌, inl, inr, refl, List, ◌++◌, length, length-append, append-nil, ap, sym, subst, ◌∙◌, arith}
use Rattle.std.specs.Prelude.{Option, Some, None, ◌≢◌, ◌==◌, nat_lt, not, if◌then◌else◌}
use Rattle.std.proofs.lemmas.Bool.{cases_lt}
use Rattle.std.proofs.lemmas.Bool.Decides.{nat_tests}
use Rattle.bpf_insn.specs.Bytes.{view_fault}
use Rattle.bpf_insn.specs.declared.fault.ViewError.{ViewError}
use Rattle.bpf_insn.specs.declared.fault.ViewError.TheVariants.{NotMultipleOf8, Empty, TooLong}
use Rattle.profile.specs.Policy.{Policy}
use Rattle.cert_check.specs.Certified.{IsFirst, turn_of}
use Rattle.cert_check.specs.declared.fault.CheckError.{CheckError}
use Rattle.cert_check.specs.declared.fault.CheckError.TheVariants.{View, Kernel, Form, Root, Edge, Split, Entail, Return, OutOfMemory}
use Rattle.cert_check.proofs.FirstLaws.{first_view}
use Rattle.cli.specs.Files.{IsEnough}

-- the fault of a filter, by its length
abbrev fault_at : ℕ → Option ViewError
fault_at n =
    if not (n % 8 == 0) then Some NotMultipleOf8
    else if n == 0 then Some Empty
    else if nat_lt 32768 n then Some TooLong
    else None

long_faults : (n m : ℕ) → m % 8 ≡ n % 8 → 32768 < n → n ≤ m → fault_at m ≡ fault_at n
long_faults n m e lt le = grind (arith, nat_tests)

long_is_faulty : (n : ℕ) → 32768 < n → fault_at n ≡ None → ⊥
long_is_faulty n lt e = grind (arith, nat_tests)

module _ (most : ℕ) (file bytes : List ℕ) (e : IsEnough most file bytes) where
  sizes : length file ≡ length bytes + length e.rest
  sizes = ap length e.split ∙ length-append bytes e.rest

  pub all_read : length bytes ≤ most → bytes ≡ file
  all_read le = sym (e.split ∙ (ap (λ r. bytes ++ r) (e.whole le) ∙ append-nil bytes))

  pub all_read_of : length file ≤ most → bytes ≡ file
  all_read_of le = all_read (omega (arith, sizes))

-- of a filter
module _ (file bytes : List ℕ) (e : IsEnough 32768 file bytes) where
  same_fault_at : (long : 32768 < length bytes) → view_fault file ≡ view_fault bytes
  same_fault_at long =
      let n = sizes 32768 file bytes e in
      long_faults (length bytes) (length file) (omega (arith, n, e.eights)) long (omega (arith, n))

  pub same_fault : view_fault file ≡ view_fault bytes
  same_fault = by_cases (cases_lt 32768 (length bytes)) where
    by_cases : (32768 < length bytes) ⊎ (length bytes ≤ 32768) → view_fault file ≡ view_fault bytes
    by_cases (inr le) = ap view_fault (sym (all_read 32768 file bytes e le))
    by_cases (inl lt) = same_fault_at lt

  pub whole_filter : view_fault bytes ≡ None → bytes ≡ file
  whole_filter none = by_cases (cases_lt 32768 (length bytes)) where
    by_cases : (32768 < length bytes) ⊎ (length bytes ≤ 32768) → bytes ≡ file
    by_cases (inr le) = all_read 32768 file bytes e le
    by_cases (inl lt) = absurd (long_is_faulty (length bytes) lt none)

  none_first : (policy : Policy) (cert : List ℕ) (d : CheckError) → 0 < turn_of d → IsFirst policy bytes cert d → IsFirst policy file cert d
  none_first policy cert d later h =
      subst (λ f. IsFirst policy f cert d) (whole_filter (h.earlier (View NotMultipleOf8) later)) h

  pub first_of_file : (policy : Policy) (cert : List ℕ) (d : CheckError) → d ≢ OutOfMemory → IsFirst policy bytes cert d
      → IsFirst policy file cert d
  first_of_file policy cert (View f) other h = first_view policy file cert f (same_fault ∙ h.told)
  first_of_file policy cert (Kernel f) other h = none_first policy cert (Kernel f) (omega arith) h
  first_of_file policy cert (Form f) other h = none_first policy cert (Form f) (omega arith) h
  first_of_file policy cert Root other h = none_first policy cert Root (omega arith) h
  first_of_file policy cert (Edge i) other h = none_first policy cert (Edge i) (omega arith) h
  first_of_file policy cert (Split i) other h = none_first policy cert (Split i) (omega arith) h
  first_of_file policy cert (Entail i) other h = none_first policy cert (Entail i) (omega arith) h
  first_of_file policy cert (Return i) other h = none_first policy cert (Return i) (omega arith) h
  first_of_file policy cert OutOfMemory other h = absurd (other refl)
