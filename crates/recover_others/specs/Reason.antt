-- Why no filter is made of another.
use Rattle.std.specs.Prelude.{ℕ, ◌≡◌, ◌<◌, ◌+◌, ◌*◌, false, List, [], ◌∷◌, None, Some, length, slice_get}
use Rattle.machines.specs.declared.arch.Arch.{Arch}
use Rattle.machines.specs.Numbers.{own_numbers}
use Rattle.bpf_insn.specs.declared.instruction.Insn.{Insn}
use Rattle.bpf_insn.specs.Bytes.{insns_of, view_fault}
use Rattle.kernel_check.specs.Accepted.{IsRefusal}
use Rattle.flatten.specs.Unflat.{is_plain}
use Rattle.recover_others.specs.declared.other_calls.unguarded.Unguarded.{Unguarded}
use Rattle.recover_others.specs.declared.other_calls.unguarded.Unguarded.TheVariants.{View, Kernel, Unplain, TooLong, OutOfMemory}

-- how many ranges of numbers machines have for their calls
abbrev pub ranges : List Arch → ℕ
ranges [] = 0
ranges (m ∷ ms) = length (own_numbers m) + ranges ms

-- how many instructions the filter would have: the program twice, with one in front of each, and six for each range of numbers
abbrev pub made_length : List Arch → List Insn → ℕ
made_length machines p = 2 * (length p + 1) + 6 * ranges machines

-- The bytes are no program, or the kernel refuses it, or the instruction is not plain, or the filter would have more than 4,096.
abbrev pub IsReason : List Arch → List ℕ → Unguarded → Type 0
IsReason machines filter (View fault) = view_fault filter ≡ Some fault
IsReason machines filter (Kernel why) = (view_fault filter ≡ None) × IsRefusal (insns_of filter) why
IsReason machines filter (Unplain at) = (i : Insn) × (slice_get (insns_of filter) at ≡ Some i) × (is_plain i ≡ false)
IsReason machines filter TooLong = 4096 < made_length machines (insns_of filter)
IsReason machines filter OutOfMemory = Unit {0}
