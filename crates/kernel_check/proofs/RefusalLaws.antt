-- A program has one refusal, and none where it is accepted.
use Rattle.std.proofs.Common.{◌≡◌, ◌≢◌, ◌≤◌, ◌⊎◌, ℕ, ◌==◌, inl, inr, List, refl, ap, sym, subst, ◌∙◌, arith}
use Rattle.std.specs.Prelude.{if◌then◌else◌}
use Rattle.bpf_insn.specs.declared.instruction.Insn.{Insn}
use Rattle.kernel_check.specs.declared.fault.Cause.{Cause}
use Rattle.kernel_check.specs.declared.fault.Cause.TheVariants.{Code, Load, Shift, Target, End, Scratch}
use Rattle.kernel_check.specs.declared.fault.Refused.{Refused}
use Rattle.kernel_check.specs.Accepted.{HasCause, IsRefusal, OneRefusal}
use Rattle.kernel_check.specs.Fault.{number_of}

-- the cause of a number
cause_of : ℕ → Cause
cause_of n =
    if n == 1 then Code else if n == 2 then Load else if n == 3 then Shift
    else if n == 4 then Target else if n == 5 then End else Scratch

cause_of-number_of : (k : Cause) → cause_of (number_of k) ≡ k
unfolding cause_of
cause_of-number_of Code = refl
cause_of-number_of Load = refl
cause_of-number_of Shift = refl
cause_of-number_of Target = refl
cause_of-number_of End = refl
cause_of-number_of Scratch = refl

one_cause : (a b : Cause) → number_of a ≡ number_of b → a ≡ b
one_cause a b e = sym (cause_of-number_of a) ∙ (ap cause_of e ∙ cause_of-number_of b)

is_scratch : (k : Cause) → (k ≡ Scratch) ⊎ (k ≢ Scratch)
is_scratch Code = inr (λ e. cc)
is_scratch Load = inr (λ e. cc)
is_scratch Shift = inr (λ e. cc)
is_scratch Target = inr (λ e. cc)
is_scratch End = inr (λ e. cc)
is_scratch Scratch = inl refl

-- of two refusals neither stands before the other
not_after : (p : List Insn) (e f : Refused) → IsRefusal p e → IsRefusal p f → e.pc ≤ f.pc
not_after p e f he hf = elim (is_scratch f.cause) [
  | inr other ↦ he.least_position f.pc f.cause other hf.stands
  | inl is ↦ (he.scratch_last (hf.scratch_last is e.pc e.cause he.stands).0 f.pc f.cause hf.stands).1
]

same_refusal : (e f : Refused) → e.cause ≡ f.cause → e.pc ≡ f.pc → e ≡ f
same_refusal e f cause place =
    let refused : Cause → ℕ → Refused = λ c i. record { cause = c; pc = i } in
    ap (λ c. refused c e.pc) cause ∙ ap (refused f.cause) place

-- nor has it a lesser cause
not_above : (p : List Insn) (e f : Refused) → IsRefusal p e → IsRefusal p f → e.pc ≡ f.pc → number_of e.cause ≤ number_of f.cause
not_above p e f he hf place = he.least_cause f.cause (subst (λ (i : ℕ). HasCause p i f.cause) (sym place) hf.stands)

one_refusal : (p : List Insn) (e f : Refused) → IsRefusal p e → IsRefusal p f → e ≡ f
one_refusal p e f he hf =
    let place : e.pc ≡ f.pc = omega (arith, not_after p e f he hf, not_after p f e hf he) in
    let number : number_of e.cause ≡ number_of f.cause = omega (arith, not_above p e f he hf place, not_above p f e hf he (sym place)) in
    same_refusal e f (one_cause e.cause f.cause number) place

pub one : OneRefusal
one = record {
  one = one_refusal;
  none = λ p e ok h. ok.no_cause e.pc e.cause h.stands;
}
