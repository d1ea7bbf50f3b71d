-- Which code stands for which operation (classic BPF, as in linux/bpf_common.h and linux/filter.h). These are the codes
-- that the kernel takes in a filter of call records and that this product knows.
use Rattle.std.specs.Prelude.{ℕ, ◌+◌, ◌==◌, List, [], ◌∷◌, Option, find}
use Rattle.bpf_insn.specs.declared.code.Operand.{Operand}
use Rattle.bpf_insn.specs.declared.code.Operand.TheVariants.{K, X}
use Rattle.bpf_insn.specs.declared.code.Test.{Test}
use Rattle.bpf_insn.specs.declared.code.Test.TheVariants.{Equal, Greater, AtLeast, AnyBit}
use Rattle.bpf_insn.specs.declared.code.Arithmetic.{Arithmetic}
use Rattle.bpf_insn.specs.declared.code.Arithmetic.TheVariants.{Add, Sub, Or, And, Xor}
use Rattle.bpf_insn.specs.declared.code.Operation.{Operation}
use Rattle.bpf_insn.specs.declared.code.Operation.TheVariants.{LoadWord, LoadScratch, LoadScratchX, Store, StoreX, SetA, SetX}
use Rattle.bpf_insn.specs.declared.code.Operation.TheVariants.{ReturnK, ReturnA, Jump, Branch, Compute, ShiftLeft, ShiftRight}
use Rattle.bpf_insn.specs.declared.code.Operation.TheVariants.{Negate, CopyToX, CopyToA}

-- the source of the second operand (BPF_SRC)
abbrev pub source_bits : Operand → ℕ
source_bits K = 0x00
source_bits X = 0x08

-- the test of a conditional jump (BPF_JEQ and so on)
abbrev pub test_bits : Test → ℕ
test_bits Equal = 0x10
test_bits Greater = 0x20
test_bits AtLeast = 0x30
test_bits AnyBit = 0x40

-- the computation (BPF_ADD and so on)
abbrev pub arithmetic_bits : Arithmetic → ℕ
arithmetic_bits Add = 0x00
arithmetic_bits Sub = 0x10
arithmetic_bits Or = 0x40
arithmetic_bits And = 0x50
arithmetic_bits Xor = 0xa0

-- the code that stands for an operation
abbrev pub code_of : Operation → ℕ
code_of LoadWord = 0x20
code_of LoadScratch = 0x60
code_of LoadScratchX = 0x61
code_of Store = 0x02
code_of StoreX = 0x03
code_of SetA = 0x00
code_of SetX = 0x01
code_of ReturnK = 0x06
code_of ReturnA = 0x16
code_of Jump = 0x05
code_of (Branch test operand) = 0x05 + test_bits test + source_bits operand
code_of (Compute arithmetic operand) = 0x04 + arithmetic_bits arithmetic + source_bits operand
code_of ShiftLeft = 0x64
code_of ShiftRight = 0x74
code_of Negate = 0x84
code_of CopyToX = 0x07
code_of CopyToA = 0x87

-- the operations, each once
abbrev pub operations : List Operation
operations =
    LoadWord ∷ LoadScratch ∷ LoadScratchX ∷ Store ∷ StoreX ∷ SetA ∷ SetX ∷ ReturnK ∷ ReturnA ∷ Jump
    ∷ Branch Equal K ∷ Branch Equal X ∷ Branch Greater K ∷ Branch Greater X
    ∷ Branch AtLeast K ∷ Branch AtLeast X ∷ Branch AnyBit K ∷ Branch AnyBit X
    ∷ Compute Add K ∷ Compute Add X ∷ Compute Sub K ∷ Compute Sub X ∷ Compute Or K ∷ Compute Or X
    ∷ Compute And K ∷ Compute And X ∷ Compute Xor K ∷ Compute Xor X
    ∷ ShiftLeft ∷ ShiftRight ∷ Negate ∷ CopyToX ∷ CopyToA ∷ []

-- what a code stands for, where it is listed
unfoldable pub operation_of : ℕ → Option Operation
operation_of code = find (λ operation. code_of operation == code) operations
