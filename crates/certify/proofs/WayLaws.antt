-- Where an instruction of an accepted program leads is a position of the program.
use Rattle.std.proofs.Common.{◌≡◌, ℕ, ◌+◌, ◌<◌, ◌≤◌, List, length, sym, subst, arith, inl, inr, ◌⊎◌, ⊎_elim, refl}
use Rattle.std.specs.Prelude.{Option, Some, slice_get}
use Rattle.std.proofs.lemmas.Bool.{cases_lt}
use Rattle.std.proofs.lemmas.Option.{slice_get_within}
use Rattle.bpf_insn.specs.declared.code.Operation.{Operation}
use Rattle.bpf_insn.specs.declared.code.Operation.TheVariants.{Branch, Jump, ReturnK, ReturnA}
use Rattle.bpf_insn.specs.declared.instruction.Insn.{Insn}
use Rattle.bpf_insn.specs.Code.{operation_of}
use Rattle.kernel_check.specs.declared.fault.Cause.TheVariants.{Target, End}
use Rattle.kernel_check.specs.declared.lent.Accepted.{Accepted}
use Rattle.kernel_check.specs.Accepted.{IsAccepted, IsReturn, LeadsOut}
use Rattle.kernel_check.specs.Lent.{accepted_insns}
use Rattle.certify.specs.declared.action.Action.TheVariants as action
use Rattle.certify.specs.inner.Actions.{action_by}
use Rattle.certify.proofs.ActionLaws.{forks_is}

pub accepted_is : (program : Accepted) → IsAccepted (accepted_insns program)
unfolding accepted_insns
accepted_is program = program.accepted

-- what goes on is no return, and a jump goes on by its number
no_return : (o : Option Operation) (i : Insn) (skip : ℕ) → action_by o i ≡ action.Goes skip → (o ≡ Some ReturnK) ⊎ (o ≡ Some ReturnA) → ⊥
no_return o i skip acts (inl is) = let e : action_by (Some ReturnK) i ≡ action.Goes skip = subst (λ o. action_by o i ≡ action.Goes skip) is acts in cc
no_return o i skip acts (inr is) = let e : action_by (Some ReturnA) i ≡ action.Goes skip = subst (λ o. action_by o i ≡ action.Goes skip) is acts in cc

-- it goes on by a jump, or at the next instruction
by_jump : (o : Option Operation) (i : Insn) (skip : ℕ) → action_by o i ≡ action.Goes skip
    → ((o ≡ Some Jump) × (i.k ≡ skip)) ⊎ (0 ≡ skip)
by_jump (Some (Branch test c)) i skip e = cc
by_jump (Some ReturnK) i skip e = cc
by_jump (Some ReturnA) i skip e = cc
by_jump (Some Jump) i skip e = let same : i.k ≡ skip = cc in inl (refl, same)
by_jump _ i skip e = let same : 0 ≡ skip = cc in inr same

module _ (p : List Insn) (pc : ℕ) (i : Insn) (found : slice_get p pc ≡ Some i) (accepted : IsAccepted p) where
  jump_inside : operation_of i.code ≡ Some Jump → pc + 1 + i.k < length p
  jump_inside is = ⊎_elim
      (λ (l : pc + 1 + i.k < length p). l)
      (λ (g : length p ≤ pc + 1 + i.k). absurd (accepted.no_cause pc Target (i, found, subst (λ o. LeadsOut o (length p) pc i) (sym is) g)))
      (cases_lt (pc + 1 + i.k) (length p))

  next_inside : (IsReturn i → ⊥) → pc + 1 < length p
  next_inside never =
      let within = slice_get_within p pc i found in
      ⊎_elim
      (λ (l : pc + 1 < length p). l)
      (λ (g : length p ≤ pc + 1). absurd (accepted.no_cause pc End (i, found, (omega (arith, g, within), never))))
      (cases_lt (pc + 1) (length p))

  pub goes_inside : (skip : ℕ) → action_by (operation_of i.code) i ≡ action.Goes skip → pc + 1 + skip < length p
  goes_inside skip acts = ⊎_elim
      (λ (jump : (operation_of i.code ≡ Some Jump) × (i.k ≡ skip)).
      subst (λ k. pc + 1 + k < length p) jump.1 (jump_inside jump.0))
      (λ (none : 0 ≡ skip).
      let l = next_inside (no_return (operation_of i.code) i skip acts) in omega (arith, l, none))
      (by_jump (operation_of i.code) i skip acts)

  leads_in : action_by (operation_of i.code) i ≡ action.Forks → ((length p ≤ pc + 1 + i.jt) ⊎ (length p ≤ pc + 1 + i.jf)) → ⊥
  leads_in acts out =
      let branch = forks_is (operation_of i.code) i acts in
      accepted.no_cause pc Target (i, found, subst (λ o. LeadsOut o (length p) pc i) (sym branch.is) out)

  pub taken_inside : action_by (operation_of i.code) i ≡ action.Forks → pc + 1 + i.jt < length p
  taken_inside acts = ⊎_elim
      (λ (l : pc + 1 + i.jt < length p). l)
      (λ (g : length p ≤ pc + 1 + i.jt). absurd (leads_in acts (inl g)))
      (cases_lt (pc + 1 + i.jt) (length p))

  pub other_inside : action_by (operation_of i.code) i ≡ action.Forks → pc + 1 + i.jf < length p
  other_inside acts = ⊎_elim
      (λ (l : pc + 1 + i.jf < length p). l)
      (λ (g : length p ≤ pc + 1 + i.jf). absurd (leads_in acts (inr g)))
      (cases_lt (pc + 1 + i.jf) (length p))
