-- What each machine has.
use Rattle.std.specs.Prelude.{◌≡◌, ◌==◌, ℕ, Bool, true, false, List, [], ◌∷◌, Option, Some, None, if◌then◌else◌, codes}
use Rattle.std.specs.List.{All}
use Rattle.std.specs.Str.{bytes_eq}
use Rattle.machines.specs.declared.arch.Arch.{Arch}
use Rattle.machines.specs.declared.arch.Arch.TheVariants.{X86_64, Aarch64, LinuxX86_64, LinuxX86, LinuxX32}
use Rattle.machines.specs.declared.arch.Arch.TheVariants.{LinuxAarch64, LinuxArm, LinuxRiscv64, LinuxPpc64le}
use Rattle.machines.specs.declared.arch.Arch.TheVariants.{LinuxLoongarch64, LinuxS390x, LinuxS390}
use Rattle.machines.specs.declared.arch.Family.{Family}
use Rattle.machines.specs.declared.arch.Family.TheVariants.{Chosen, Whole}
use Rattle.machines.specs.Machines as machines

abbrev pub token_of : Arch → ℕ
token_of X86_64 = machines.x86_64_token
token_of Aarch64 = machines.aarch64_token
token_of LinuxX86_64 = machines.x86_64_token
token_of LinuxX86 = machines.x86_token
token_of LinuxX32 = machines.x86_64_token
token_of LinuxAarch64 = machines.aarch64_token
token_of LinuxArm = machines.arm_token
token_of LinuxRiscv64 = machines.riscv64_token
token_of LinuxPpc64le = machines.ppc64le_token
token_of LinuxLoongarch64 = machines.loongarch64_token
token_of LinuxS390x = machines.s390x_token
token_of LinuxS390 = machines.s390_token

-- the machine stores the upper half of a number before the lower one
abbrev pub is_big_endian : Arch → Bool
is_big_endian X86_64 = false
is_big_endian Aarch64 = false
is_big_endian LinuxX86_64 = false
is_big_endian LinuxX86 = false
is_big_endian LinuxX32 = false
is_big_endian LinuxAarch64 = false
is_big_endian LinuxArm = false
is_big_endian LinuxRiscv64 = false
is_big_endian LinuxPpc64le = false
is_big_endian LinuxLoongarch64 = false
is_big_endian LinuxS390x = true
is_big_endian LinuxS390 = true

abbrev pub scmp_of : Arch → List ℕ
scmp_of X86_64 = machines.x86_64_scmp
scmp_of Aarch64 = machines.aarch64_scmp
scmp_of LinuxX86_64 = machines.x86_64_scmp
scmp_of LinuxX86 = machines.x86_scmp
scmp_of LinuxX32 = machines.x32_scmp
scmp_of LinuxAarch64 = machines.aarch64_scmp
scmp_of LinuxArm = machines.arm_scmp
scmp_of LinuxRiscv64 = machines.riscv64_scmp
scmp_of LinuxPpc64le = machines.ppc64le_scmp
scmp_of LinuxLoongarch64 = machines.loongarch64_scmp
scmp_of LinuxS390x = machines.s390x_scmp
scmp_of LinuxS390 = machines.s390_scmp

-- the name by which a user of the program calls a machine
abbrev pub machine_name : Arch → List ℕ
machine_name X86_64 = codes "x86-64"
machine_name Aarch64 = codes "aarch64"
machine_name LinuxX86_64 = codes "linux-x86-64"
machine_name LinuxX86 = codes "linux-x86"
machine_name LinuxX32 = codes "linux-x32"
machine_name LinuxAarch64 = codes "linux-aarch64"
machine_name LinuxArm = codes "linux-arm"
machine_name LinuxRiscv64 = codes "linux-riscv64"
machine_name LinuxPpc64le = codes "linux-ppc64le"
machine_name LinuxLoongarch64 = codes "linux-loongarch64"
machine_name LinuxS390x = codes "linux-s390x"
machine_name LinuxS390 = codes "linux-s390"

-- the machine with this name, of those that a container may be for
unfoldable pub native_called : List ℕ → Option Arch
native_called name =
    if bytes_eq name (machine_name X86_64) then Some X86_64
    else if bytes_eq name (machine_name Aarch64) then Some Aarch64
    else if bytes_eq name (machine_name LinuxX86_64) then Some LinuxX86_64
    else if bytes_eq name (machine_name LinuxAarch64) then Some LinuxAarch64
    else if bytes_eq name (machine_name LinuxRiscv64) then Some LinuxRiscv64
    else if bytes_eq name (machine_name LinuxPpc64le) then Some LinuxPpc64le
    else if bytes_eq name (machine_name LinuxLoongarch64) then Some LinuxLoongarch64
    else if bytes_eq name (machine_name LinuxS390x) then Some LinuxS390x
    else None

-- the machine with this name
unfoldable pub machine_called : List ℕ → Option Arch
machine_called name =
    if bytes_eq name (machine_name LinuxX86) then Some LinuxX86
    else if bytes_eq name (machine_name LinuxX32) then Some LinuxX32
    else if bytes_eq name (machine_name LinuxArm) then Some LinuxArm
    else if bytes_eq name (machine_name LinuxS390) then Some LinuxS390
    else native_called name

-- a machine's place among all
abbrev pub place_of : Arch → ℕ
place_of X86_64 = 0
place_of Aarch64 = 1
place_of LinuxX86_64 = 2
place_of LinuxX32 = 3
place_of LinuxX86 = 4
place_of LinuxAarch64 = 5
place_of LinuxArm = 6
place_of LinuxRiscv64 = 7
place_of LinuxPpc64le = 8
place_of LinuxLoongarch64 = 9
place_of LinuxS390x = 10
place_of LinuxS390 = 11

abbrev pub same_arch : Arch → Arch → Bool
same_arch a b = place_of a == place_of b

-- ---- families

-- the tables that the machine's is one of: machines of one family may stand in one profile
abbrev pub family_of : Arch → Family
family_of X86_64 = Chosen
family_of Aarch64 = Chosen
family_of LinuxX86_64 = Whole
family_of LinuxX86 = Whole
family_of LinuxX32 = Whole
family_of LinuxAarch64 = Whole
family_of LinuxArm = Whole
family_of LinuxRiscv64 = Whole
family_of LinuxPpc64le = Whole
family_of LinuxLoongarch64 = Whole
family_of LinuxS390x = Whole
family_of LinuxS390 = Whole

abbrev pub same_family : Family → Family → Bool
same_family Chosen Chosen = true
same_family Chosen Whole = false
same_family Whole Chosen = false
same_family Whole Whole = true

-- a family's machines, x86-64 first, and side by side those with one token
abbrev pub machines_of : Family → List Arch
machines_of Chosen = X86_64 ∷ Aarch64 ∷ []
machines_of Whole =
    LinuxX86_64 ∷ LinuxX32 ∷ LinuxX86 ∷ LinuxAarch64 ∷ LinuxArm ∷
    LinuxRiscv64 ∷ LinuxPpc64le ∷ LinuxLoongarch64 ∷ LinuxS390x ∷ LinuxS390 ∷ []

-- all of these machines are of the family
abbrev pub AreOfFamily : Family → List Arch → Type 0
AreOfFamily family archs = All (λ arch. family_of arch ≡ family) archs
