-- Each machine's table is looked up both ways alike.
use Rattle.std.proofs.Common.{◌≡◌, refl}
use Rattle.machines.specs.declared.arch.Arch.{Arch}
use Rattle.machines.specs.declared.arch.Arch.TheVariants.{X86_64, Aarch64, LinuxX86_64, LinuxX86, LinuxX32, LinuxAarch64, LinuxArm, LinuxRiscv64, LinuxPpc64le, LinuxLoongarch64, LinuxS390x, LinuxS390}
use Rattle.call_tables.specs.Table.{IsInverse}
use Rattle.call_tables.specs.Tables.{x86_64_table, aarch64_table, linux_x86_64_table, linux_x86_table, linux_x32_table}
use Rattle.call_tables.specs.Tables.{linux_aarch64_table, linux_arm_table, linux_riscv64_table, linux_ppc64le_table, linux_loongarch64_table, linux_s390x_table, linux_s390_table}
use Rattle.call_tables.specs.Tables.{table_of}
use Rattle.call_tables.proofs.TableLaws.{one_to_one-inverse}
use Rattle.call_tables.specs.inner.WholeTables as whole

x86_64-inverse : IsInverse x86_64_table
unfolding x86_64_table
x86_64-inverse = one_to_one-inverse x86_64_table refl

aarch64-inverse : IsInverse aarch64_table
unfolding aarch64_table
aarch64-inverse = one_to_one-inverse aarch64_table refl

pub table_of-inverse : (arch : Arch) → IsInverse (table_of arch)
table_of-inverse X86_64 = x86_64-inverse
table_of-inverse Aarch64 = aarch64-inverse
table_of-inverse LinuxX86_64 = one_to_one-inverse linux_x86_64_table whole.linux_x86_64-one_to_one
table_of-inverse LinuxX86 = one_to_one-inverse linux_x86_table whole.linux_x86-one_to_one
table_of-inverse LinuxX32 = one_to_one-inverse linux_x32_table whole.linux_x32-one_to_one
table_of-inverse LinuxAarch64 = one_to_one-inverse linux_aarch64_table whole.linux_aarch64-one_to_one
table_of-inverse LinuxArm = one_to_one-inverse linux_arm_table whole.linux_arm-one_to_one
table_of-inverse LinuxRiscv64 = one_to_one-inverse linux_riscv64_table whole.linux_riscv64-one_to_one
table_of-inverse LinuxPpc64le = one_to_one-inverse linux_ppc64le_table whole.linux_ppc64le-one_to_one
table_of-inverse LinuxLoongarch64 = one_to_one-inverse linux_loongarch64_table whole.linux_loongarch64-one_to_one
table_of-inverse LinuxS390x = one_to_one-inverse linux_s390x_table whole.linux_s390x-one_to_one
table_of-inverse LinuxS390 = one_to_one-inverse linux_s390_table whole.linux_s390-one_to_one
