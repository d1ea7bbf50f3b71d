-- The tables of each machine (Linux 6.18, SYSCALL_DEFINE and COMPAT_SYSCALL_DEFINE). x32 enters the calls of x86-64, but for
-- those with entries of its own. AArch64, riscv64 and ppc64le take the arguments of clone in another order, and so does s390x.
-- Of the number of ipc, x86 and ppc64le read 16 bits (ksys_ipc of ipc/syscall.c).
use Rattle.std.specs.Prelude.{List, [], ◌∷◌, map}
use Rattle.machines.specs.declared.arch.Arch.{Arch}
use Rattle.machines.specs.declared.arch.Arch.TheVariants.{X86_64, Aarch64, LinuxX86_64, LinuxX86, LinuxX32}
use Rattle.machines.specs.declared.arch.Arch.TheVariants.{LinuxAarch64, LinuxArm, LinuxRiscv64, LinuxPpc64le, LinuxLoongarch64}
use Rattle.machines.specs.declared.arch.Arch.TheVariants.{LinuxS390x, LinuxS390}
use Rattle.widths.specs.declared.linux_arguments.TheConstants.{FIRST_CALLS, SECOND_CALLS, THIRD_CALLS, FOURTH_CALLS}
use Rattle.widths.specs.declared.linux_arguments.TheConstants.{X32_CALLS, X86_CALLS, AARCH64_CALLS, PPC64LE_CALLS, S390X_CALLS}
use Rattle.widths.specs.Rows.{Rows}

unfoldable pub first_rows : Rows
first_rows = map (λ e. (e.0.now, e.1)) FIRST_CALLS.now

unfoldable pub second_rows : Rows
second_rows = map (λ e. (e.0.now, e.1)) SECOND_CALLS.now

unfoldable pub third_rows : Rows
third_rows = map (λ e. (e.0.now, e.1)) THIRD_CALLS.now

unfoldable pub fourth_rows : Rows
fourth_rows = map (λ e. (e.0.now, e.1)) FOURTH_CALLS.now

unfoldable pub x32_rows : Rows
x32_rows = map (λ e. (e.0.now, e.1)) X32_CALLS.now

unfoldable pub x86_rows : Rows
x86_rows = map (λ e. (e.0.now, e.1)) X86_CALLS.now

unfoldable pub aarch64_rows : Rows
aarch64_rows = map (λ e. (e.0.now, e.1)) AARCH64_CALLS.now

unfoldable pub ppc64le_rows : Rows
ppc64le_rows = map (λ e. (e.0.now, e.1)) PPC64LE_CALLS.now

unfoldable pub s390x_rows : Rows
s390x_rows = map (λ e. (e.0.now, e.1)) S390X_CALLS.now

abbrev pub from_third : List Rows
from_third = third_rows ∷ fourth_rows ∷ []

abbrev pub from_second : List Rows
from_second = second_rows ∷ from_third

abbrev pub shared : List Rows
shared = first_rows ∷ from_second

abbrev pub on_x32 : List Rows
on_x32 = x32_rows ∷ shared

abbrev pub on_aarch64 : List Rows
on_aarch64 = aarch64_rows ∷ shared

abbrev pub on_ppc64le : List Rows
on_ppc64le = ppc64le_rows ∷ shared

abbrev pub on_s390x : List Rows
on_s390x = s390x_rows ∷ shared

-- the tables in which a machine's calls are looked up. ARM and s390 need none, and x86 that of one call: all their arguments have 32 bits.
abbrev pub tables_of : Arch → List Rows
tables_of X86_64 = shared
tables_of Aarch64 = on_aarch64
tables_of LinuxX86_64 = shared
tables_of LinuxX32 = on_x32
tables_of LinuxX86 = x86_rows ∷ []
tables_of LinuxAarch64 = on_aarch64
tables_of LinuxArm = []
tables_of LinuxRiscv64 = on_aarch64
tables_of LinuxPpc64le = on_ppc64le
tables_of LinuxLoongarch64 = shared
tables_of LinuxS390x = on_s390x
tables_of LinuxS390 = []
