-- Which calls the kernel answers without running a filter (kernel/seccomp.c, since Linux 5.11). When a filter is loaded, the
-- kernel asks it about each number of its table (seccomp_cache_prepare_bitmap). It carries the filter out by the number and the
-- machine's token alone (seccomp_is_const_allow). Where that ends in ALLOW, it lets the call through from then on, and does not
-- run the filter.
use Rattle.std.specs.Prelude.{ℕ, ◌≡◌, ◌==◌, ◌||◌, Bool, true, false, if◌then◌else◌, List, [], ◌∷◌, map, Option, Some, None}
use Rattle.bpf_insn.specs.declared.instruction.Insn.{Insn}
use Rattle.bpf_insn.specs.declared.code.Operand.TheVariants.{K}
use Rattle.bpf_insn.specs.declared.code.Arithmetic.TheVariants.{And}
use Rattle.bpf_insn.specs.declared.code.Operation.{Operation}
use Rattle.bpf_insn.specs.declared.code.Operation.TheVariants.{LoadWord, ReturnK, Jump, Branch, Compute}
use Rattle.bpf_insn.specs.Code.{operation_of}
use Rattle.bpf_insn.specs.Machine.{verdict_of}
use Rattle.call_record.specs.declared.layout.Record.{Record}
use Rattle.call_record.specs.Record.{words}

-- what the kernel carries out when it asks: of the loads those of the number and of the machine
abbrev pub is_followed : Option Operation → ℕ → Bool
is_followed (Some LoadWord) k = k == 0 || k == 4
is_followed (Some ReturnK) k = true
is_followed (Some Jump) k = true
is_followed (Some (Branch test K)) k = true
is_followed (Some (Compute And K)) k = true
is_followed other k = false

-- at any other instruction it gives up, as at a code of no operation
abbrev pub followed : Insn → Insn
followed i = if is_followed (operation_of i.code) i.k then i else record i { code = 0xffff }

-- the verdict in which the kernel's asking ends, if it does not give up
abbrev pub verdict_asked : List Insn → ℕ → ℕ → Option ℕ
verdict_asked p arch nr = verdict_of (map followed p) (nr ∷ arch ∷ [])

-- SECCOMP_RET_ALLOW, with nothing in the low half
abbrev pub is_plain_allow : Option ℕ → Bool
is_plain_allow None = false
is_plain_allow (Some word) = word == 0x7fff0000

-- the kernel answers the call by itself
abbrev pub is_answered : List Insn → ℕ → ℕ → Bool
is_answered p arch nr = is_plain_allow (verdict_asked p arch nr)

-- the filter allows each such call, whatever the rest of its record holds
abbrev pub AnsweredIsAllowed : Type 0
AnsweredIsAllowed = (p : List Insn) (r : Record) → is_answered p r.arch r.nr ≡ true → verdict_of p (words r) ≡ Some 0x7fff0000
