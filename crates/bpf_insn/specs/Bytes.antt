-- A program as bytes: eight an instruction, with the fields in order and the lowest byte of a number
-- first (struct sock_filter of linux/filter.h).
use Rattle.std.specs.Prelude.{ℕ, ◌<◌, ◌*◌, ◌^◌, ◌%◌, ◌==◌, nat_lt, not, if◌then◌else◌, List, [], ◌∷◌, ◌++◌, length, drop}
use Rattle.std.specs.Prelude.{slice_index, Option, Some, None}
use Rattle.std.specs.List.{All, flat_map}
use Rattle.byteorder.specs.Endian.{little_bytes, little_number}
use Rattle.bpf_insn.specs.declared.instruction.Insn.{Insn}
use Rattle.bpf_insn.specs.declared.fault.ViewError.{ViewError}
use Rattle.bpf_insn.specs.declared.fault.ViewError.TheVariants.{NotMultipleOf8, Empty, TooLong}

-- each field is within its width
pub record IsInsn (i : Insn) : Type 0 where
  pub code : i.code < 2 ^ 16
  pub jt : i.jt < 2 ^ 8
  pub jf : i.jf < 2 ^ 8
  pub k : i.k < 2 ^ 32

-- each is such an instruction
abbrev pub AreInsns : List Insn → Type 0
AreInsns p = All IsInsn p

-- each number is a byte
abbrev pub AreBytes : List ℕ → Type 0
AreBytes bytes = All (λ b. b < 2 ^ 8) bytes

-- the instruction that the first eight bytes spell
abbrev pub insn_at : List ℕ → Insn
insn_at bytes =
    record { code = little_number 2 bytes; jt = slice_index bytes 2; jf = slice_index bytes 3; k = little_number 4 (drop 4 bytes) }

-- the instructions that bytes spell, eight bytes each
abbrev pub insns_of : List ℕ → List Insn
insns_of (b0 ∷ b1 ∷ b2 ∷ b3 ∷ b4 ∷ b5 ∷ b6 ∷ b7 ∷ rest) =
    insn_at (b0 ∷ b1 ∷ b2 ∷ b3 ∷ b4 ∷ b5 ∷ b6 ∷ b7 ∷ rest) ∷ insns_of rest
insns_of bytes = []

-- the eight bytes of an instruction
abbrev pub insn_bytes : Insn → List ℕ
insn_bytes i = little_bytes 2 i.code ++ (i.jt ∷ i.jf ∷ little_bytes 4 i.k)

-- the bytes of instructions, in order
abbrev pub spelling : List Insn → List ℕ
spelling p = flat_map insn_bytes p

-- the most instructions that a program has (BPF_MAXINSNS)
abbrev pub max_insns : ℕ
max_insns = 4096

-- why bytes are no program: the first of these that stands
abbrev pub view_fault : List ℕ → Option ViewError
view_fault bytes =
    if not (length bytes % 8 == 0) then Some NotMultipleOf8
    else if length bytes == 0 then Some Empty
    else if nat_lt (8 * max_insns) (length bytes) then Some TooLong
    else None
