-- Codes and operations are one to one.
use Rattle.std.proofs.Common.{◌≡◌, ℕ, Bool, true, false, cond, List, [], ◌∷◌, refl, sym, ap, ◌∙◌}
use Rattle.std.specs.Prelude.{◌==◌, Option, Some, find}
use Rattle.std.proofs.lemmas.Bool.{eqb-true}
use Rattle.bpf_insn.specs.declared.code.Operand.TheVariants.{K, X}
use Rattle.bpf_insn.specs.declared.code.Test.TheVariants.{Equal, Greater, AtLeast, AnyBit}
use Rattle.bpf_insn.specs.declared.code.Arithmetic.TheVariants.{Add, Sub, Or, And, Xor}
use Rattle.bpf_insn.specs.declared.code.Operation.{Operation}
use Rattle.bpf_insn.specs.declared.code.Operation.TheVariants.{LoadWord, LoadScratch, LoadScratchX, Store, StoreX, SetA, SetX}
use Rattle.bpf_insn.specs.declared.code.Operation.TheVariants.{ReturnK, ReturnA, Jump, Branch, Compute, ShiftLeft, ShiftRight}
use Rattle.bpf_insn.specs.declared.code.Operation.TheVariants.{Negate, CopyToX, CopyToA}
use Rattle.bpf_insn.specs.Code.{code_of, operation_of, operations}

-- each operation has a code that stands for it
pub operation_of-code_of : (op : Operation) → operation_of (code_of op) ≡ Some op
unfolding operation_of
operation_of-code_of LoadWord = refl
operation_of-code_of LoadScratch = refl
operation_of-code_of LoadScratchX = refl
operation_of-code_of Store = refl
operation_of-code_of StoreX = refl
operation_of-code_of SetA = refl
operation_of-code_of SetX = refl
operation_of-code_of ReturnK = refl
operation_of-code_of ReturnA = refl
operation_of-code_of Jump = refl
operation_of-code_of (Branch Equal K) = refl
operation_of-code_of (Branch Equal X) = refl
operation_of-code_of (Branch Greater K) = refl
operation_of-code_of (Branch Greater X) = refl
operation_of-code_of (Branch AtLeast K) = refl
operation_of-code_of (Branch AtLeast X) = refl
operation_of-code_of (Branch AnyBit K) = refl
operation_of-code_of (Branch AnyBit X) = refl
operation_of-code_of (Compute Add K) = refl
operation_of-code_of (Compute Add X) = refl
operation_of-code_of (Compute Sub K) = refl
operation_of-code_of (Compute Sub X) = refl
operation_of-code_of (Compute Or K) = refl
operation_of-code_of (Compute Or X) = refl
operation_of-code_of (Compute And K) = refl
operation_of-code_of (Compute And X) = refl
operation_of-code_of (Compute Xor K) = refl
operation_of-code_of (Compute Xor X) = refl
operation_of-code_of ShiftLeft = refl
operation_of-code_of ShiftRight = refl
operation_of-code_of Negate = refl
operation_of-code_of CopyToX = refl
operation_of-code_of CopyToA = refl

-- what is found in any list of operations is one of that code
looked_up : (ops : List Operation) (code : ℕ) (op : Operation) → find (λ o. code_of o == code) ops ≡ Some op → code ≡ code_of op
looked_up [] code op h = cc
looked_up (o ∷ ops) code op h = by_test (code_of o == code) (find (λ x. code_of x == code) ops) refl (looked_up ops code op) h where
  by_test : (b : Bool) (later : Option Operation) → (code_of o == code) ≡ b → (later ≡ Some op → code ≡ code_of op)
      → cond b (Some o) later ≡ Some op → code ≡ code_of op
  by_test true later test there e =
      let same : o ≡ op = cc in
      sym (eqb-true (code_of o) code test) ∙ ap code_of same
  by_test false later test there e = there e

-- no other code stands for it
pub code_of-operation_of : (code : ℕ) (op : Operation) → operation_of code ≡ Some op → code ≡ code_of op
unfolding operation_of
code_of-operation_of code op h = looked_up operations code op h

pub ruleset one_to_one = (operation_of-code_of, code_of-operation_of)
