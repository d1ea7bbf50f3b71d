-- The table of each machine.
use Rattle.std.specs.Prelude.{ℕ, ◌++◌, List, map}
use Rattle.machines.specs.declared.arch.Arch.{Arch}
use Rattle.machines.specs.declared.arch.Arch.TheVariants.{X86_64, Aarch64, LinuxX86_64, LinuxX86, LinuxX32}
use Rattle.machines.specs.declared.arch.Arch.TheVariants.{LinuxAarch64, LinuxArm, LinuxRiscv64, LinuxPpc64le}
use Rattle.machines.specs.declared.arch.Arch.TheVariants.{LinuxLoongarch64, LinuxS390x, LinuxS390}
use Rattle.call_tables.specs.declared.calls.TheConstants.{X86_64_CALLS, AARCH64_CALLS}
use Rattle.call_tables.specs.declared.linux_calls.TheConstants.{FIRST_CALLS, SECOND_CALLS}
use Rattle.call_tables.specs.declared.linux_calls_later.TheConstants.{THIRD_CALLS, FOURTH_CALLS}
use Rattle.call_tables.specs.Table.{Table}
use Rattle.call_tables.specs.Rows.{Rows, column_of}

-- ---- the chosen lists

unfoldable pub x86_64_table : Table
x86_64_table = map (λ e. (e.0.now, e.1)) X86_64_CALLS.now

unfoldable pub aarch64_table : Table
aarch64_table = map (λ e. (e.0.now, e.1)) AARCH64_CALLS.now

-- ---- all calls of Linux, in the columns x86-64, x86, x32, AArch64, ARM, riscv64, ppc64le, loongarch64,
-- s390x and s390

unfoldable pub first_rows : Rows
first_rows = map (λ e. (e.0.now, e.1)) FIRST_CALLS.now

unfoldable pub second_rows : Rows
second_rows = map (λ e. (e.0.now, e.1)) SECOND_CALLS.now

unfoldable pub third_rows : Rows
third_rows = map (λ e. (e.0.now, e.1)) THIRD_CALLS.now

unfoldable pub fourth_rows : Rows
fourth_rows = map (λ e. (e.0.now, e.1)) FOURTH_CALLS.now

abbrev pub linux_rows : Rows
linux_rows = first_rows ++ (second_rows ++ (third_rows ++ fourth_rows))

unfoldable pub linux_x86_64_table : Table
linux_x86_64_table = column_of 0 linux_rows

unfoldable pub linux_x86_table : Table
linux_x86_table = column_of 1 linux_rows

unfoldable pub linux_x32_table : Table
linux_x32_table = column_of 2 linux_rows

unfoldable pub linux_aarch64_table : Table
linux_aarch64_table = column_of 3 linux_rows

unfoldable pub linux_arm_table : Table
linux_arm_table = column_of 4 linux_rows

unfoldable pub linux_riscv64_table : Table
linux_riscv64_table = column_of 5 linux_rows

unfoldable pub linux_ppc64le_table : Table
linux_ppc64le_table = column_of 6 linux_rows

unfoldable pub linux_loongarch64_table : Table
linux_loongarch64_table = column_of 7 linux_rows

unfoldable pub linux_s390x_table : Table
linux_s390x_table = column_of 8 linux_rows

unfoldable pub linux_s390_table : Table
linux_s390_table = column_of 9 linux_rows

-- ---- of each machine

abbrev pub table_of : Arch → Table
table_of X86_64 = x86_64_table
table_of Aarch64 = aarch64_table
table_of LinuxX86_64 = linux_x86_64_table
table_of LinuxX86 = linux_x86_table
table_of LinuxX32 = linux_x32_table
table_of LinuxAarch64 = linux_aarch64_table
table_of LinuxArm = linux_arm_table
table_of LinuxRiscv64 = linux_riscv64_table
table_of LinuxPpc64le = linux_ppc64le_table
table_of LinuxLoongarch64 = linux_loongarch64_table
table_of LinuxS390x = linux_s390x_table
table_of LinuxS390 = linux_s390_table
