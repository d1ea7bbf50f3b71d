-- Machines by the numbers of seccomp_arch_add(3): the token of <linux/audit.h>, and for x32 one of its own.
use Rattle.std.specs.Prelude.{ℕ, ◌≡◌, ◌==◌, Option, Some, None, if◌then◌else◌}
use Rattle.machines.specs.declared.arch.Arch.{Arch}
use Rattle.machines.specs.declared.arch.Arch.TheVariants.{LinuxX86_64, LinuxX86, LinuxX32, LinuxAarch64}
use Rattle.machines.specs.declared.arch.Arch.TheVariants.{LinuxArm, LinuxRiscv64, LinuxPpc64le, LinuxLoongarch64}

abbrev pub machine_with : ℕ → Option Arch
machine_with n =
    if n == 0xc000003e then Some LinuxX86_64
    else if n == 0x40000003 then Some LinuxX86
    else if n == 0x4000003e then Some LinuxX32
    else if n == 0xc00000b7 then Some LinuxAarch64
    else if n == 0x40000028 then Some LinuxArm
    else if n == 0xc00000f3 then Some LinuxRiscv64
    else if n == 0xc0000015 then Some LinuxPpc64le
    else if n == 0xc0000102 then Some LinuxLoongarch64
    else None

-- the number is a machine's, and this holds of the machine
abbrev pub OfMachine : ℕ → (Arch → Type 0) → Type 0
OfMachine n Holds = (arch : Arch) × (machine_with n ≡ Some arch) × Holds arch
