-- What a filter of a big-endian machine is where lower halves stand first, and the other way round.
use Rattle.std.specs.Prelude.{◌≡◌, ◌↔◌, ℕ, ◌+◌, ◌-◌, ◌%◌, ◌==◌, ◌||◌, nat_le, nat_lt, not, Bool, if◌then◌else◌}
use Rattle.std.specs.Prelude.{List, length, map, Option, Some}
use Rattle.machines.specs.declared.arch.Arch.{Arch}
use Rattle.machines.specs.Arch.{is_big_endian}
use Rattle.call_record.specs.Words.{FieldsFit, words_from}
use Rattle.bpf_insn.specs.declared.code.Operation.{Operation}
use Rattle.bpf_insn.specs.declared.code.Operation.TheVariants.{LoadWord}
use Rattle.bpf_insn.specs.declared.instruction.Insn.{Insn}
use Rattle.bpf_insn.specs.Bytes as little
use Rattle.bpf_insn.specs.Code.{operation_of}
use Rattle.bpf_insn.specs.Machine.{verdict_of}
use Rattle.kernel_check.specs.Accepted.{IsAccepted}
use Rattle.byte_order.specs.Big as big

-- The offset of the other half of the same number. The instruction pointer and the arguments have halves, from 8 to 63; the number of
-- the call and the token have none.
abbrev pub other_word : ℕ → ℕ
other_word k =
    if nat_lt k 8 || nat_le 64 k || not (k % 4 == 0) then k
    else if k % 8 == 0 then k + 4
    else k - 4

-- the instruction reads a word of the record
abbrev pub other_half_by : Option Operation → Insn → Insn
other_half_by (Some LoadWord) i = record i { k = other_word i.k }
other_half_by other i = i

-- the instruction that reads the other half, if it reads a half
abbrev pub other_half : Insn → Insn
other_half i = other_half_by (operation_of i.code) i

-- the bytes are whole instructions
abbrev pub are_whole : List ℕ → Bool
are_whole bytes = length bytes % 8 == 0

-- the filter of a big-endian machine with its bytes and halves in the order of the others
abbrev pub little_filter : List ℕ → List ℕ
little_filter file = if are_whole file then little.spelling (map other_half (big.insns_of file)) else file

-- the other way round
abbrev pub big_filter : List ℕ → List ℕ
big_filter filter = if are_whole filter then big.spelling (map other_half (little.insns_of filter)) else filter

-- the filter that a file has for a machine
abbrev pub read_as : Arch → List ℕ → List ℕ
read_as native file = if is_big_endian native then little_filter file else file

-- the file that has a filter for a machine
abbrev pub written_as : Arch → List ℕ → List ℕ
written_as native filter = if is_big_endian native then big_filter filter else filter

-- These instructions mean on a big-endian machine what the others mean elsewhere: the kernel accepts them if it accepts those, and on
-- each call it gives the verdict that those give.
pub record MeanTheSame (own others : List Insn) : Type 0 where
  pub accepted : IsAccepted own ↔ IsAccepted others
  pub verdicts : (nr arch ip : ℕ) (args : List ℕ) → FieldsFit nr arch ip args
      → verdict_of own (big.words_from nr arch ip args) ≡ verdict_of others (words_from nr arch ip args)

-- a file that is read, and one that is written
abbrev pub MeansAsRead : List ℕ → Type 0
MeansAsRead file = MeanTheSame (big.insns_of file) (little.insns_of (little_filter file))

abbrev pub MeansAsWritten : List ℕ → Type 0
MeansAsWritten filter = MeanTheSame (big.insns_of (big_filter filter)) (little.insns_of filter)
