-- What an instruction does, by what a path does there.
use Rattle.std.proofs.Common.{◌≡◌, ℕ, ◌+◌, ◌⊎◌, Bool, true, false, cond, refl, ap, arith, subst, inl, inr}
use Rattle.std.specs.Prelude.{Option, Some, None, List, [], ◌∷◌}
use Rattle.bpf_insn.specs.declared.code.Operand.{Operand}
use Rattle.bpf_insn.specs.declared.code.Test.{Test}
use Rattle.bpf_insn.specs.declared.code.Operation.{Operation}
use Rattle.bpf_insn.specs.declared.code.Operation.TheVariants.{Branch, Jump, LoadScratch, LoadScratchX, LoadWord, ReturnA, ReturnK}
use Rattle.bpf_insn.specs.declared.code.Operation.TheVariants.{ShiftLeft, ShiftRight}
use Rattle.bpf_insn.specs.declared.instruction.Insn.{Insn}
use Rattle.bpf_insn.specs.Machine.{Registers, Ends, Stuck, loaded, loaded_x, kept, perform_if, with_a, word_at}
use Rattle.kernel_check.specs.Paths.{LeadsTo}
use Rattle.cert_state.specs.declared.literal.Regs.{Regs}
use Rattle.cert_state.specs.Transfer.{transfer}
use Rattle.cert_form.specs.Nodes.{PlainNode}
use Rattle.cert_check.specs.Rules.{Edge, no_node, step_edges, verdict_by}
use Rattle.certify.specs.declared.action.Action.TheVariants as action
use Rattle.certify.specs.inner.Actions.{action_by}
use Rattle.certify.specs.Telling.{telling_by}

-- a comparison
pub record IsBranch (o : Option Operation) : Type 0 where
  pub test : Test
  pub operand : Operand
  pub is : o ≡ Some (Branch test operand)

pub forks_is : (o : Option Operation) (i : Insn) → action_by o i ≡ action.Forks → IsBranch o
forks_is (Some (Branch test c)) i e = record { test = test; operand = c; is = refl }
forks_is (Some ReturnK) i e = cc
forks_is (Some ReturnA) i e = cc
forks_is (Some Jump) i e = cc
forks_is _ i e = cc

-- a return
pub ends_is : (o : Option Operation) (i : Insn) → action_by o i ≡ action.Ends → (o ≡ Some ReturnK) ⊎ (o ≡ Some ReturnA)
ends_is (Some (Branch test c)) i e = cc
ends_is (Some ReturnK) i e = inl refl
ends_is (Some ReturnA) i e = inr refl
ends_is (Some Jump) i e = cc
ends_is _ i e = cc

module _ (i : Insn) (skip : ℕ) where
  same_skip : (n : ℕ) → action.Goes n ≡ action.Goes skip → n ≡ skip
  same_skip n e = cc

  -- where it goes on
  pub leads_on : (o : Option Operation) (pc next : ℕ) → action_by o i ≡ action.Goes skip → LeadsTo o pc i next → next ≡ pc + 1 + skip
  leads_on (Some (Branch test c)) pc next e leads = cc
  leads_on (Some ReturnK) pc next e leads = cc
  leads_on (Some ReturnA) pc next e leads = cc
  leads_on (Some Jump) pc next e leads = let same = same_skip i.k e in omega (arith, leads, same)
  leads_on _ pc next e leads = let same = same_skip 0 e in omega (arith, leads, same)

  -- the only edge of its node
  pub edge_on : (o : Option Operation) (n : PlainNode) (to : ℕ) → action_by o i ≡ action.Goes skip
      → step_edges o n to no_node i ≡ Some (record { to = to; pc = n.pc + 1 + skip; fact = None; regs = transfer n.regs i } ∷ [])
  edge_on (Some (Branch test c)) n to e = cc
  edge_on (Some ReturnK) n to e = cc
  edge_on (Some ReturnA) n to e = cc
  edge_on (Some Jump) n to e =
      ap (λ k. Some (record { to = to; pc = n.pc + 1 + k; fact = None; regs = transfer n.regs i } ∷ [])) (same_skip i.k e)
  edge_on _ n to e =
      let same : n.pc + 1 ≡ n.pc + 1 + skip = (let s = same_skip 0 e in omega (arith, s)) in
      ap (λ pc. Some (record { to = to; pc = pc; fact = None; regs = transfer n.regs i } ∷ [])) same

  -- the rest of the filter
  pub telling_on : (o : Option Operation) (s : Regs) (rest : ℕ → Type 0) → action_by o i ≡ action.Goes skip → telling_by o i s rest
      → rest skip
  telling_on (Some (Branch test c)) s rest e t = cc
  telling_on (Some ReturnK) s rest e t = cc
  telling_on (Some ReturnA) s rest e t = cc
  telling_on (Some Jump) s rest e t = subst rest (same_skip i.k e) t
  telling_on None s rest e t = absurd t
  telling_on (Some op) s rest e t = subst rest (same_skip 0 e) t

  loaded_goes : (o : Option ℕ) (s : Registers) (word : ℕ) → loaded s o ≡ Ends word → ⊥
  loaded_goes None s word e = cc
  loaded_goes (Some w) s word e = cc

  loaded_x_goes : (o : Option ℕ) (s : Registers) (word : ℕ) → loaded_x s o ≡ Ends word → ⊥
  loaded_x_goes None s word e = cc
  loaded_x_goes (Some w) s word e = cc

  guarded_goes : (b : Bool) (n : ℕ) (s : Registers) (word : ℕ) → cond b (with_a s n) Stuck ≡ Ends word → ⊥
  guarded_goes true n s word e = cc
  guarded_goes false n s word e = cc

  -- it does not end the run
  pub never_ends : (o : Option Operation) (r : List ℕ) (s : Registers) (word : ℕ) → action_by o i ≡ action.Goes skip
      → perform_if o r i s ≡ Ends word → ⊥
  never_ends None r s word e d = cc
  never_ends (Some (Branch test c)) r s word e d = cc
  never_ends (Some ReturnK) r s word e d = cc
  never_ends (Some ReturnA) r s word e d = cc
  never_ends (Some LoadWord) r s word e d = loaded_goes (word_at r i.k) s word d
  never_ends (Some LoadScratch) r s word e d = loaded_goes (kept s i.k) s word d
  never_ends (Some LoadScratchX) r s word e d = loaded_x_goes (kept s i.k) s word d
  never_ends (Some ShiftLeft) r s word e d = guarded_goes _ _ s word d
  never_ends (Some ShiftRight) r s word e d = guarded_goes _ _ s word d
  never_ends (Some op) r s word e d = cc

-- a return of which the verdict is known
pub verdict_known : (o : Option Operation) (i : Insn) (s : Regs) (rest : ℕ → Type 0) → action_by o i ≡ action.Ends → telling_by o i s rest
    → (word : ℕ) × (verdict_by o s i ≡ Some word)
verdict_known (Some ReturnK) i s rest e t = (i.k, refl)
verdict_known (Some ReturnA) i s rest e t = (t.0, ap Rattle.cert_check.specs.Rules.value_verdict t.1)
verdict_known (Some (Branch test c)) i s rest e t = cc
verdict_known (Some Jump) i s rest e t = cc
verdict_known _ i s rest e t = cc
