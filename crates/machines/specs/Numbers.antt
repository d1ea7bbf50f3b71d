-- Which numbers of calls are a machine's own. x32 calls carry the token of x86-64. Their numbers have the bit 0x40000000
-- (__X32_SYSCALL_BIT of the kernel's arch/x86/include/uapi/asm/unistd.h). A call that a tracer skipped has the number
-- 0xffffffff, which the kernel takes for none of x32. The chosen lists leave all numbers from 0x40000000 on foreign.
use Rattle.std.specs.Prelude.{◌≡◌, ℕ, ◌≤◌, ◌==◌, ◌&&◌, not, nat_le, Bool, if◌then◌else◌, List, [], ◌∷◌}
use Rattle.std.specs.List.{Any, list_any}
use Rattle.machines.specs.declared.arch.Arch.{Arch}
use Rattle.machines.specs.declared.arch.Arch.TheVariants.{X86_64, Aarch64, LinuxX86_64, LinuxX86, LinuxX32}
use Rattle.machines.specs.declared.arch.Arch.TheVariants.{LinuxAarch64, LinuxArm, LinuxRiscv64, LinuxPpc64le}
use Rattle.machines.specs.declared.arch.Arch.TheVariants.{LinuxLoongarch64, LinuxS390x, LinuxS390}
use Rattle.machines.specs.declared.numbers.Numbers.{Numbers}
use Rattle.machines.specs.Arch.{token_of, family_of, same_arch, same_family}

abbrev pub from_to : ℕ → ℕ → Numbers
from_to first last = record { first = first; last = last }

-- the numbers that are a machine's own
abbrev pub own_numbers : Arch → List Numbers
own_numbers X86_64 = from_to 0 0x3fffffff ∷ []
own_numbers Aarch64 = from_to 0 0xffffffff ∷ []
own_numbers LinuxX86_64 = from_to 0 0x3fffffff ∷ from_to 0xffffffff 0xffffffff ∷ []
own_numbers LinuxX86 = from_to 0 0xffffffff ∷ []
own_numbers LinuxX32 = from_to 0x40000000 0xfffffffe ∷ []
own_numbers LinuxAarch64 = from_to 0 0xffffffff ∷ []
own_numbers LinuxArm = from_to 0 0xffffffff ∷ []
own_numbers LinuxRiscv64 = from_to 0 0xffffffff ∷ []
own_numbers LinuxPpc64le = from_to 0 0xffffffff ∷ []
own_numbers LinuxLoongarch64 = from_to 0 0xffffffff ∷ []
own_numbers LinuxS390x = from_to 0 0xffffffff ∷ []
own_numbers LinuxS390 = from_to 0 0xffffffff ∷ []

-- all others
abbrev pub other_numbers : Arch → List Numbers
other_numbers X86_64 = from_to 0x40000000 0xffffffff ∷ []
other_numbers Aarch64 = []
other_numbers LinuxX86_64 = from_to 0x40000000 0xfffffffe ∷ []
other_numbers LinuxX86 = []
other_numbers LinuxX32 = from_to 0 0x3fffffff ∷ from_to 0xffffffff 0xffffffff ∷ []
other_numbers LinuxAarch64 = []
other_numbers LinuxArm = []
other_numbers LinuxRiscv64 = []
other_numbers LinuxPpc64le = []
other_numbers LinuxLoongarch64 = []
other_numbers LinuxS390x = []
other_numbers LinuxS390 = []

-- numbers of the machine, among which those of all its calls are
abbrev pub call_numbers : Arch → List Numbers
call_numbers X86_64 = from_to 0 511 ∷ []
call_numbers Aarch64 = from_to 0 511 ∷ []
call_numbers LinuxX86_64 = from_to 0 511 ∷ []
call_numbers LinuxX86 = from_to 0 511 ∷ []
call_numbers LinuxX32 = from_to 0x40000000 0x400003ff ∷ []
call_numbers LinuxAarch64 = from_to 0 511 ∷ []
call_numbers LinuxArm = from_to 0 511 ∷ from_to 0xf0000 0xf000f ∷ []
call_numbers LinuxRiscv64 = from_to 0 511 ∷ []
call_numbers LinuxPpc64le = from_to 0 511 ∷ []
call_numbers LinuxLoongarch64 = from_to 0 511 ∷ []
call_numbers LinuxS390x = from_to 0 511 ∷ []
call_numbers LinuxS390 = from_to 0 511 ∷ []

abbrev pub IsWithin : ℕ → Numbers → Type 0
IsWithin nr numbers = (numbers.first ≤ nr) × (nr ≤ numbers.last)

-- one of a machine's own
abbrev pub IsOwn : Arch → ℕ → Type 0
IsOwn arch nr = Any (IsWithin nr) (own_numbers arch)

-- one of the others
abbrev pub IsOther : Arch → ℕ → Type 0
IsOther arch nr = Any (IsWithin nr) (other_numbers arch)

-- one of those among which all its calls are
abbrev pub IsAmong : Arch → ℕ → Type 0
IsAmong arch nr = Any (IsWithin nr) (call_numbers arch)

-- a call with this token and this number is the machine's
abbrev pub HasCall : ℕ → ℕ → Arch → Type 0
HasCall token nr arch = (token_of arch ≡ token) × IsOwn arch nr

-- the same as a test
abbrev pub is_within : ℕ → Numbers → Bool
is_within nr numbers = nat_le numbers.first nr && nat_le nr numbers.last

abbrev pub has_call : ℕ → ℕ → Arch → Bool
has_call token nr arch = token_of arch == token && list_any (is_within nr) (own_numbers arch)

-- another machine of the family with the same token
abbrev pub shares_token : Arch → Arch → Bool
shares_token arch other =
    not (same_arch other arch) && (same_family (family_of other) (family_of arch) && token_of other == token_of arch)

-- The numbers of calls with a machine's token that are none of these machines' own. If another of the family has the
-- token, there are none, since each number is one of either.
abbrev pub foreign_numbers : List Arch → Arch → List Numbers
foreign_numbers machines arch = if list_any (shares_token arch) machines then [] else other_numbers arch
