-- Code of five kinds of instruction, which the kernel accepts.
use Rattle.std.specs.Prelude.{◌≡◌, ℕ, ◌%◌, ◌<◌, ⊤, List, [], ◌∷◌, Some, length}
use Rattle.bpf_insn.specs.declared.code.Operand.TheVariants.{K}
use Rattle.bpf_insn.specs.declared.code.Test.{Test}
use Rattle.bpf_insn.specs.declared.code.Arithmetic.TheVariants.{And}
use Rattle.bpf_insn.specs.declared.code.Operation.TheVariants.{Compute, LoadWord, ReturnK, Jump, Branch}
use Rattle.bpf_insn.specs.declared.instruction.Insn.{Insn}
use Rattle.bpf_insn.specs.Code.{operation_of}

-- an instruction in front of so many is one of five kinds, and leads to one of them
pub data IsFine (i : Insn) (n : ℕ) : Type 0 where
  returns : operation_of i.code ≡ Some ReturnK → IsFine i n
  jumps : operation_of i.code ≡ Some Jump → i.k < n → IsFine i n
  forks : (test : Test) → operation_of i.code ≡ Some (Branch test K) → i.jt < n → i.jf < n → IsFine i n
  masks : operation_of i.code ≡ Some (Compute And K) → 0 < n → IsFine i n
  loads : operation_of i.code ≡ Some LoadWord → i.k < 64 → i.k % 4 ≡ 0 → 0 < n → IsFine i n

abbrev pub AreFine : List Insn → Type 0
AreFine [] = ⊤
AreFine (i ∷ code) = IsFine i (length code) × AreFine code
