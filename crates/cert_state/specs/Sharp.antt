-- Sharp facts: what is known on an edge of a jump in certificates of form 4. They tell more than `edge_fact` of a word
-- under a mask. They tell it by the lowest bit of the mask, by the mask itself, or by what is known of the bits
-- outside.
use Rattle.std.specs.Prelude.{ℕ, ◌+◌, ◌-◌, ◌^◌, ◌==◌, nat_le, nat_lt, min, bit_and, bit_or, bit_xor}
use Rattle.std.specs.Prelude.{◌&&◌, Bool, true, false, if◌then◌else◌, List, Option, Some, None}
use Rattle.std.specs.Int.{w32, trailing_zeros}
use Rattle.bpf_insn.specs.declared.code.Test.{Test}
use Rattle.bpf_insn.specs.declared.code.Test.TheVariants.{Greater, AtLeast, AnyBit}
use Rattle.bpf_insn.specs.declared.code.Operation.{Operation}
use Rattle.bpf_insn.specs.declared.code.Operation.TheVariants.{Branch}
use Rattle.bpf_insn.specs.declared.instruction.Insn.{Insn}
use Rattle.bpf_insn.specs.Code.{operation_of}
use Rattle.cert_state.specs.declared.literal.Lit.{Lit}
use Rattle.cert_state.specs.declared.literal.Lit.TheVariants.{Bits, NotBits}
use Rattle.cert_state.specs.declared.literal.AVal.{AVal}
use Rattle.cert_state.specs.declared.literal.AVal.TheVariants.{Const, Masked}
use Rattle.cert_state.specs.declared.literal.Regs.{Regs}
use Rattle.cert_state.specs.Literals.{all_bits, false_literal}
use Rattle.cert_state.specs.Points.{datum_of, mask_of}
use Rattle.cert_state.specs.Transfer.{masked_fact, operand_value, test_fact}

-- the lowest bit of a number; of 0 it is the one above all
abbrev pub lowest_bit : ℕ → ℕ
lowest_bit n = 2 ^ trailing_zeros w32 n

-- a number of one bit, and a mask that is all bits from its lowest one up
abbrev pub is_bit : ℕ → Bool
is_bit n = n == lowest_bit n

abbrev pub is_high : ℕ → Bool
is_high m = m + lowest_bit m == 2 ^ 32

-- what a word has outside a mask, where its Bits say it of each bit there
abbrev pub outside : List Lit → ℕ → ℕ → Option ℕ
outside lits w m =
    let rest = bit_xor m all_bits in
    if bit_and rest (mask_of lits w) == rest then Some (bit_and (datum_of lits w) rest) else None

-- the word w has some bit of a mask, or none
abbrev pub any_fact : ℕ → ℕ → Bool → Option Lit
any_fact w m true = if is_bit m then Some (Bits w m m) else Some (NotBits w m 0)
any_fact w m false = Some (Bits w m 0)

-- The word w under the mask m is above c, or is not. With what it has outside the mask, if that is known, it is the word itself.
-- Else, if c is below the mask's lowest bit, it is above c if it has some bit of the mask. The word is never less than it is
-- under a mask.
abbrev pub beside_fact : ℕ → ℕ → ℕ → Option ℕ → Bool → Option Lit
beside_fact w m c (Some d) taken = masked_fact Greater w all_bits (min (c + d) all_bits) taken
beside_fact w m c None taken =
    if nat_lt c (lowest_bit m) then any_fact w m taken
    else if taken then masked_fact Greater w all_bits c true
    else None

-- A word under a mask is never above a c that the mask is not above.
abbrev pub part_fact : List Lit → ℕ → ℕ → ℕ → Bool → Option Lit
part_fact lits w m c taken =
    if taken && nat_le m c then Some false_literal else beside_fact w m c (outside lits w m) taken

-- The same of any mask. Of the high bits of the word it says the same as that the word itself is above c with all lower bits set.
abbrev pub above_fact : List Lit → ℕ → ℕ → ℕ → Bool → Option Lit
above_fact lits w m c taken =
    if is_high m then masked_fact Greater w all_bits (bit_or c (all_bits - m)) taken else part_fact lits w m c taken

-- what is known where a comparison of the word w under the mask m with c came out so
abbrev pub sharp_masked_fact : List Lit → Test → ℕ → ℕ → ℕ → Bool → Option Lit
sharp_masked_fact lits Greater w m c taken = above_fact lits w m c taken
sharp_masked_fact lits AtLeast w m c taken =
    if c == 0 then masked_fact AtLeast w all_bits 0 taken else above_fact lits w m (c - 1) taken
sharp_masked_fact lits AnyBit w m c taken = any_fact w (bit_and m c) taken
sharp_masked_fact lits test w m c taken = masked_fact test w m c taken

-- what is known where a comparison of A with its operand came out so
abbrev pub sharp_test_fact : List Lit → Test → AVal → AVal → Bool → Option Lit
sharp_test_fact lits test (Masked w m) (Const c) taken = sharp_masked_fact lits test w m c taken
sharp_test_fact lits test a c taken = test_fact test a c taken

-- what is known on an edge of an instruction: of a conditional jump, where it is taken or where not
abbrev pub sharp_fact_by : List Lit → Option Operation → Insn → Regs → Bool → Option Lit
sharp_fact_by lits (Some (Branch test c)) i s taken = sharp_test_fact lits test s.a (operand_value c i s) taken
sharp_fact_by lits _ i s taken = None

abbrev pub sharp_fact : List Lit → Regs → Insn → Bool → Option Lit
sharp_fact lits s i taken = sharp_fact_by lits (operation_of i.code) i s taken
