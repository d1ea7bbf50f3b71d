-- The first cause, one position after the other.
use Rattle.std.proofs.Common.{◌≡◌, ◌≢◌, ℕ, ◌+◌, ◌<◌, ◌≤◌, inl, inr, List, length, sym, subst, arith}
use Rattle.std.specs.Prelude.{Some, slice_get}
use Rattle.std.proofs.lemmas.Bool.{cases_lt}
use Rattle.std.proofs.lemmas.Option.{slice_get_within}
use Rattle.bpf_insn.specs.declared.instruction.Insn.{Insn}
use Rattle.kernel_check.specs.declared.fault.Cause.{Cause}
use Rattle.kernel_check.specs.declared.fault.Cause.TheVariants.{Scratch}
use Rattle.kernel_check.specs.Accepted.{CauseAt, HasCause, IsRefusal}
use Rattle.kernel_check.specs.Fault.{number_of}
use Rattle.kernel_check.specs.inner.Masks.{OnlyScratch}

-- what stands at a position stands at its instruction
pub at_insn : (p : List Insn) (i : ℕ) (insn : Insn) (k : Cause) → slice_get p i ≡ Some insn → HasCause p i k → CauseAt k p i insn
at_insn p i insn k found (other, e, s) =
    let same : other ≡ insn = cc in
    subst (λ x. CauseAt k p i x) same s

-- only Scratch stands at the positions so far
abbrev pub OnlyScratchBefore : List Insn → ℕ → Type 0
OnlyScratchBefore p n = (j : ℕ) (k : Cause) → j < n → HasCause p j k → k ≡ Scratch

-- and at one more
pub scratch_more : (p : List Insn) (i : ℕ) (insn : Insn) → slice_get p i ≡ Some insn → OnlyScratchBefore p i
    → ((k : Cause) → CauseAt k p i insn → k ≡ Scratch) → OnlyScratchBefore p (i + 1)
scratch_more p i insn found before here j k h s =
    elim (cases_lt j i) [
      | inl lt ↦ before j k lt s
      | inr le ↦ let e : j ≡ i = omega arith in here k (at_insn p i insn k found (subst (λ m. HasCause p m k) e s))
    ]

-- another cause that stands at the first such position is what the program is refused for
pub first : (p : List Insn) (i : ℕ) (insn : Insn) (cause : Cause) → slice_get p i ≡ Some insn → OnlyScratchBefore p i
    → CauseAt cause p i insn → cause ≢ Scratch → ((k : Cause) → CauseAt k p i insn → number_of cause ≤ number_of k)
    → IsRefusal p (record { cause = cause; pc = i })
first p i insn cause found before here other least = record {
  stands = (insn, found, here);
  least_position = λ j k ne s. elim (cases_lt j i) [ inl lt ↦ absurd (ne (before j k lt s)) | inr le ↦ le ];
  least_cause = λ k s. least k (at_insn p i insn k found s);
  scratch_last = λ e. absurd (other e);
}

-- where only Scratch stands anywhere, the first position where it does is what the program is refused for
pub first_scratch : (p : List Insn) (i : ℕ) → OnlyScratch p → HasCause p i Scratch → ((j : ℕ) → HasCause p j Scratch → i ≤ j)
    → IsRefusal p (record { cause = Scratch; pc = i })
first_scratch p i only here least = record {
  stands = here;
  least_position = λ j k ne s. absurd (ne (only j k s));
  least_cause = λ k s. subst (λ c. 6 ≤ number_of c) (sym (only i k s)) (omega arith);
  scratch_last = λ e j k s. (only j k s, least j (subst (HasCause p j) (only j k s) s));
}

-- where only Scratch stands at the positions so far, and they are all, only Scratch stands
pub only_scratch : (p : List Insn) (n i : ℕ) → n ≡ length p → n ≤ i → OnlyScratchBefore p i → OnlyScratch p
only_scratch p n i size past only j k s = let lt : j < length p = slice_get_within p j s.0 s.1 in only j k (omega arith) s

-- and where it stands nowhere, no cause does
pub no_cause : (p : List Insn) → OnlyScratch p → ((i : ℕ) → HasCause p i Scratch → ⊥) → (i : ℕ) (k : Cause) → HasCause p i k → ⊥
no_cause p only none i k s = none i (subst (HasCause p i) (only i k s) s)
