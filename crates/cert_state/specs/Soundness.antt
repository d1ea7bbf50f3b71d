-- That what is known is true.
use Rattle.std.specs.Prelude.{◌≡◌, ℕ, List, Some, IfSome}
use Rattle.call_record.specs.Words.{IsRecord}
use Rattle.bpf_insn.specs.declared.code.Operand.{Operand}
use Rattle.bpf_insn.specs.declared.code.Test.{Test}
use Rattle.bpf_insn.specs.declared.code.Operation.TheVariants.{Branch}
use Rattle.bpf_insn.specs.declared.instruction.Insn.{Insn}
use Rattle.bpf_insn.specs.Code.{operation_of}
use Rattle.bpf_insn.specs.Machine.{Registers, Goes, holds, operand, step}
use Rattle.cert_state.specs.declared.literal.Lit.{Lit}
use Rattle.cert_state.specs.declared.literal.Regs.{Regs}
use Rattle.cert_state.specs.Literals.{Holds}
use Rattle.cert_state.specs.States.{Inside}
use Rattle.cert_state.specs.Transfer.{edge_fact, transfer}
use Rattle.cert_state.specs.Sharp.{sharp_fact}

-- one step of the machine leads from inside a state to inside what `transfer` gives
abbrev pub StaysInside : Regs → List Lit → Insn → Type 0
StaysInside regs lits i =
    (r : List ℕ) (s : Registers) (skip : ℕ) (after : Registers) → IsRecord r → Inside regs lits r s → step r i s ≡ Goes skip after
    → Inside (transfer regs i) lits r after

-- the fact of the edge that the machine takes is true
abbrev pub FollowsFact : Regs → List Lit → Insn → Type 0
FollowsFact regs lits i =
    (r : List ℕ) (s : Registers) (test : Test) (c : Operand) → IsRecord r → Inside regs lits r s
    → operation_of i.code ≡ Some (Branch test c) → IfSome (edge_fact regs i (holds test s.a (operand c i s))) (λ l. Holds l r)

-- and so is its sharp fact
abbrev pub FollowsSharpFact : Regs → List Lit → Insn → Type 0
FollowsSharpFact regs lits i =
    (r : List ℕ) (s : Registers) (test : Test) (c : Operand) → IsRecord r → Inside regs lits r s
    → operation_of i.code ≡ Some (Branch test c) → IfSome (sharp_fact lits regs i (holds test s.a (operand c i s))) (λ l. Holds l r)

-- a literal is true of each record inside
abbrev pub HoldsInside : Regs → List Lit → Lit → Type 0
HoldsInside regs lits l = (r : List ℕ) (s : Registers) → IsRecord r → Inside regs lits r s → Holds l r

-- no record is inside
abbrev pub IsEmpty : Regs → List Lit → Type 0
IsEmpty regs lits = (r : List ℕ) (s : Registers) → IsRecord r → Inside regs lits r s → ⊥
