-- Code of five kinds of instruction is accepted.
use Rattle.std.proofs.Common.{◌≡◌, ℕ, zero, suc, ◌+◌, ◌≤◌, List, [], ◌∷◌, length, sym, ◌∙◌, subst, arith, inl, inr}
use Rattle.std.specs.Prelude.{Option, Some, slice_get}
use Rattle.std.proofs.lemmas.Option.{same_Some, none-some}
use Rattle.bpf_insn.specs.declared.code.Operand.TheVariants.{K}
use Rattle.bpf_insn.specs.declared.code.Operation.{Operation}
use Rattle.bpf_insn.specs.declared.code.Arithmetic.TheVariants.{And}
use Rattle.bpf_insn.specs.declared.code.Operation.TheVariants.{Compute, LoadWord, ReturnK, Jump, Branch}
use Rattle.bpf_insn.specs.declared.instruction.Insn.{Insn}
use Rattle.bpf_insn.specs.Code.{operation_of}
use Rattle.bpf_insn.specs.Bytes.{max_insns}
use Rattle.bpf_insn.specs.Causes.{NamesNoWord}
use Rattle.kernel_check.specs.declared.fault.Cause.{Cause}
use Rattle.kernel_check.specs.declared.fault.Cause.TheVariants as cause
use Rattle.kernel_check.specs.Accepted.{CauseAt, HasCause, IsAccepted, LeadsOut}
use Rattle.rule_compile.specs.inner.Emitted.{AreFine, IsFine, forks, jumps, loads, masks, returns}

-- the instruction at a position, and how many stand after it
fine_at : (p : List Insn) (i : ℕ) (insn : Insn) → AreFine p → slice_get p i ≡ Some insn → (n : ℕ) × (i + 1 + n ≡ length p) × IsFine insn n
fine_at [] i insn fine there = cc
fine_at (x ∷ p) zero insn fine there = (length p, omega arith, subst (λ y. IsFine y (length p)) (same_Some x insn there) fine.0)
fine_at (x ∷ p) (suc i) insn fine there =
    let rest = fine_at p i insn fine.1 there in
    (rest.0, omega (arith, rest.1), rest.2)

module _ (p : List Insn) (i n : ℕ) (insn : Insn) (place : i + 1 + n ≡ length p) where
  -- no other operation is this one
  other : (a b : Operation) → operation_of insn.code ≡ Some a → operation_of insn.code ≡ Some b → a ≡ b
  other a b e f = same_Some a b (sym e ∙ f)

  no_load : (o : Option Operation) → operation_of insn.code ≡ o → (NamesNoWord o insn.k → ⊥)
      → NamesNoWord (operation_of insn.code) insn.k → ⊥
  no_load o e not bad = not (subst (λ q. NamesNoWord q insn.k) e bad)

  no_way : (o : Option Operation) → operation_of insn.code ≡ o → (LeadsOut o (length p) i insn → ⊥)
      → LeadsOut (operation_of insn.code) (length p) i insn → ⊥
  no_way o e not bad = not (subst (λ q. LeadsOut q (length p) i insn) e bad)

  none : (k : Cause) → IsFine insn n → CauseAt k p i insn → ⊥
  none cause.Code (returns e) is = none-some _ (sym is ∙ e)
  none cause.Code (jumps e a) is = none-some _ (sym is ∙ e)
  none cause.Code (forks test e a b) is = none-some _ (sym is ∙ e)
  none cause.Code (masks e a) is = none-some _ (sym is ∙ e)
  none cause.Code (loads e a b c) is = none-some _ (sym is ∙ e)
  none cause.Load (returns e) is = no_load (Some ReturnK) e (λ bad. bad) is
  none cause.Load (jumps e a) is = no_load (Some Jump) e (λ bad. bad) is
  none cause.Load (forks test e a b) is = no_load (Some (Branch test K)) e (λ bad. bad) is
  none cause.Load (masks e a) is = no_load (Some (Compute And K)) e (λ bad. bad) is
  none cause.Load (loads e a b c) is = no_load (Some LoadWord) e (λ bad. elim bad [
    | inl high ↦ omega
        (arith, high, a)
    | inr odd ↦ odd b
  ]) is
  none cause.Shift (returns e) is = elim is.0 [ inl f ↦ cc | inr f ↦ cc ]
  none cause.Shift (jumps e a) is = elim is.0 [ inl f ↦ cc | inr f ↦ cc ]
  none cause.Shift (forks test e a b) is = elim is.0 [ inl f ↦ cc | inr f ↦ cc ]
  none cause.Shift (masks e a) is = elim is.0 [ inl f ↦ cc | inr f ↦ cc ]
  none cause.Shift (loads e a b c) is = elim is.0 [ inl f ↦ cc | inr f ↦ cc ]
  none cause.Target (returns e) is = no_way (Some ReturnK) e (λ bad. bad) is
  none cause.Target (jumps e a) is = no_way (Some Jump) e (λ bad. omega (arith, bad, a, place)) is
  none cause.Target (forks test e a b) is = no_way (Some (Branch test K)) e (λ bad. elim bad [
    | inl t ↦ omega
        (arith, t, a, place)
    | inr f ↦ omega (arith, f, b, place)
  ]) is
  none cause.Target (masks e a) is = no_way (Some (Compute And K)) e (λ bad. bad) is
  none cause.Target (loads e a b c) is = no_way (Some LoadWord) e (λ bad. bad) is
  none cause.End (returns e) is = is.1 (inl e)
  none cause.End (jumps e a) is = omega (arith, is.0, a, place)
  none cause.End (forks test e a b) is = omega (arith, is.0, a, place)
  none cause.End (masks e a) is = omega (arith, is.0, a, place)
  none cause.End (loads e a b c) is = omega (arith, is.0, c, place)
  none cause.Scratch (returns e) is = elim is.0 [ inl f ↦ cc | inr f ↦ cc ]
  none cause.Scratch (jumps e a) is = elim is.0 [ inl f ↦ cc | inr f ↦ cc ]
  none cause.Scratch (forks test e a b) is = elim is.0 [ inl f ↦ cc | inr f ↦ cc ]
  none cause.Scratch (masks e a) is = elim is.0 [ inl f ↦ cc | inr f ↦ cc ]
  none cause.Scratch (loads e a b c) is = elim is.0 [ inl f ↦ cc | inr f ↦ cc ]

pub fine_has_no_cause : (p : List Insn) → AreFine p → (i : ℕ) (k : Cause) → HasCause p i k → ⊥
fine_has_no_cause p fine i k has =
    let at = fine_at p i has.0 fine has.1 in
    none p i at.0 has.0 at.1 k at.2 has.2

pub fine_is_accepted : (p : List Insn) → 1 ≤ length p → length p ≤ max_insns → AreFine p → IsAccepted p
fine_is_accepted p some limit fine = record { some = some; limit = limit; no_cause = fine_has_no_cause p fine }
