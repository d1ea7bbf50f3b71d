-- What is known after an instruction, and on an edge of a jump.
use Rattle.std.specs.Prelude.{ℕ, ◌+◌, ◌-◌, ◌*◌, ◌/◌, ◌%◌, ◌^◌, ◌==◌, Bool, true, false, not, if◌then◌else◌}
use Rattle.std.specs.Prelude.{Option, Some, None, slice_index_or, slice_set, bit_and}
use Rattle.bpf_insn.specs.declared.code.Operand.{Operand}
use Rattle.bpf_insn.specs.declared.code.Operand.TheVariants.{K, X}
use Rattle.bpf_insn.specs.declared.code.Test.{Test}
use Rattle.bpf_insn.specs.declared.code.Test.TheVariants.{Equal, Greater, AtLeast, AnyBit}
use Rattle.bpf_insn.specs.declared.code.Arithmetic.{Arithmetic}
use Rattle.bpf_insn.specs.declared.code.Arithmetic.TheVariants.{And}
use Rattle.bpf_insn.specs.declared.code.Operation.{Operation}
use Rattle.bpf_insn.specs.declared.code.Operation.TheVariants.{LoadWord, LoadScratch, LoadScratchX, Store, StoreX, SetA, SetX}
use Rattle.bpf_insn.specs.declared.code.Operation.TheVariants.{ReturnK, ReturnA, Jump, Branch, Compute, ShiftLeft, ShiftRight}
use Rattle.bpf_insn.specs.declared.code.Operation.TheVariants.{Negate, CopyToX, CopyToA}
use Rattle.bpf_insn.specs.declared.instruction.Insn.{Insn}
use Rattle.bpf_insn.specs.Code.{operation_of}
use Rattle.bpf_insn.specs.Machine.{computed, holds}
use Rattle.cert_state.specs.declared.literal.Lit.{Lit}
use Rattle.cert_state.specs.declared.literal.Lit.TheVariants.{In, Bits, NotBits}
use Rattle.cert_state.specs.declared.literal.AVal.{AVal}
use Rattle.cert_state.specs.declared.literal.AVal.TheVariants.{Unknown, Const, Masked}
use Rattle.cert_state.specs.declared.literal.Regs.{Regs}
use Rattle.cert_state.specs.Literals.{all_bits, false_literal}

-- the value of the second operand
abbrev pub operand_value : Operand → Insn → Regs → AVal
operand_value K i s = Const i.k
operand_value X i s = s.x

-- what is computed of a constant is constant
abbrev pub mapped : (ℕ → ℕ) → AVal → AVal
mapped f (Const a) = Const (f a)
mapped f _ = Unknown

-- what is computed of two constants is constant
abbrev pub combined : (ℕ → ℕ → ℕ) → AVal → AVal → AVal
combined f (Const a) (Const c) = Const (f a c)
combined f _ _ = Unknown

-- AND with a constant
abbrev pub masked : AVal → AVal → AVal
masked (Const a) (Const c) = Const (bit_and a c)
masked (Masked w m) (Const c) = Masked w (bit_and m c)
masked _ _ = Unknown

abbrev pub computed_value : Arithmetic → AVal → AVal → AVal
computed_value And a c = masked a c
computed_value f a c = combined (computed f) a c

-- what is known of the registers after an instruction of this operation
abbrev pub transfer_by : Operation → Insn → Regs → Regs
transfer_by LoadWord i s = record s { a = Masked (i.k / 4) all_bits }
transfer_by LoadScratch i s = record s { a = slice_index_or s.scratch i.k Unknown }
transfer_by LoadScratchX i s = record s { x = slice_index_or s.scratch i.k Unknown }
transfer_by Store i s = record s { scratch = slice_set s.scratch i.k s.a }
transfer_by StoreX i s = record s { scratch = slice_set s.scratch i.k s.x }
transfer_by SetA i s = record s { a = Const i.k }
transfer_by SetX i s = record s { x = Const i.k }
transfer_by ReturnK i s = s
transfer_by ReturnA i s = s
transfer_by Jump i s = s
transfer_by (Branch test c) i s = s
transfer_by (Compute f c) i s = record s { a = computed_value f s.a (operand_value c i s) }
transfer_by ShiftLeft i s = record s { a = mapped (λ a. a * 2 ^ i.k % 2 ^ 32) s.a }
transfer_by ShiftRight i s = record s { a = mapped (λ a. a / 2 ^ i.k) s.a }
transfer_by Negate i s = record s { a = mapped (λ a. (2 ^ 32 - a) % 2 ^ 32) s.a }
transfer_by CopyToX i s = record s { x = s.a }
transfer_by CopyToA i s = record s { a = s.x }

-- the same of the operation that its code stands for
abbrev pub transfer_if : Option Operation → Insn → Regs → Regs
transfer_if None i s = s
transfer_if (Some op) i s = transfer_by op i s

abbrev pub transfer : Regs → Insn → Regs
transfer s i = transfer_if (operation_of i.code) i s

-- nothing is known on an edge that is always taken, and the false literal on one that never is
abbrev pub certain_fact : Bool → Option Lit
certain_fact true = None
certain_fact false = Some false_literal

-- what is known where a comparison of the word w under the mask m with c came out so
abbrev pub masked_fact : Test → ℕ → ℕ → ℕ → Bool → Option Lit
masked_fact Equal w m c true = if bit_and c m == c then Some (Bits w m c) else Some false_literal
masked_fact Equal w m c false = if bit_and c m == c then Some (NotBits w m c) else None
masked_fact Greater w m c true =
    if m == all_bits then (if c == all_bits then Some false_literal else Some (In w (c + 1) all_bits)) else None
masked_fact Greater w m c false = if m == all_bits then Some (In w 0 c) else None
masked_fact AtLeast w m c true = if m == all_bits then Some (In w c all_bits) else None
masked_fact AtLeast w m c false =
    if m == all_bits then (if c == 0 then Some false_literal else Some (In w 0 (c - 1))) else None
masked_fact AnyBit w m c true = Some (NotBits w (bit_and m c) 0)
masked_fact AnyBit w m c false = Some (Bits w (bit_and m c) 0)

-- what is known where a comparison of A with its operand came out so
abbrev pub test_fact : Test → AVal → AVal → Bool → Option Lit
test_fact test (Const a) (Const c) taken = certain_fact (if taken then holds test a c else not (holds test a c))
test_fact test (Masked w m) (Const c) taken = masked_fact test w m c taken
test_fact test _ _ taken = None

-- what is known on an edge of an instruction: of a conditional jump, where it is taken or where not
abbrev pub fact_by : Option Operation → Insn → Regs → Bool → Option Lit
fact_by (Some (Branch test c)) i s taken = test_fact test s.a (operand_value c i s) taken
fact_by _ i s taken = None

abbrev pub edge_fact : Regs → Insn → Bool → Option Lit
edge_fact s i taken = fact_by (operation_of i.code) i s taken
