-- Instructions and call records as a kernel has them that stores the upper half of a number first: each field of struct sock_filter
-- (linux/filter.h) has its highest byte first, and each number of 64 bits of struct seccomp_data (seccomp(2)) its upper half.
use Rattle.std.specs.Prelude.{ℕ, ◌/◌, ◌%◌, ◌^◌, List, [], ◌∷◌, ◌++◌, drop, slice_index}
use Rattle.std.specs.List.{flat_map}
use Rattle.byteorder.specs.Endian.{big_bytes, big_number}
use Rattle.bpf_insn.specs.declared.instruction.Insn.{Insn}

-- the instruction that the first eight bytes spell
abbrev pub insn_at : List ℕ → Insn
insn_at bytes =
    record { code = big_number 2 bytes; jt = slice_index bytes 2; jf = slice_index bytes 3; k = big_number 4 (drop 4 bytes) }

-- the instructions that bytes spell, eight bytes each
abbrev pub insns_of : List ℕ → List Insn
insns_of (b0 ∷ b1 ∷ b2 ∷ b3 ∷ b4 ∷ b5 ∷ b6 ∷ b7 ∷ rest) =
    insn_at (b0 ∷ b1 ∷ b2 ∷ b3 ∷ b4 ∷ b5 ∷ b6 ∷ b7 ∷ rest) ∷ insns_of rest
insns_of bytes = []

-- the eight bytes of an instruction
abbrev pub insn_bytes : Insn → List ℕ
insn_bytes i = big_bytes 2 i.code ++ (i.jt ∷ i.jf ∷ big_bytes 4 i.k)

-- the bytes of instructions, in order
abbrev pub spelling : List Insn → List ℕ
spelling p = flat_map insn_bytes p

-- each number of 64 bits as its high and its low word
abbrev pub halves : List ℕ → List ℕ
halves [] = []
halves (n ∷ ns) = n / 2 ^ 32 ∷ n % 2 ^ 32 ∷ halves ns

-- the words of these fields: the number of the call, the machine's token, the instruction pointer, the arguments
abbrev pub words_from : ℕ → ℕ → ℕ → List ℕ → List ℕ
words_from nr arch ip args = nr ∷ arch ∷ halves (ip ∷ args)
