-- The rows of Linux stand in order, and no machine has a number twice: computed over them.
use Rattle.std.proofs.Common.{◌≡◌, true, refl}
use Rattle.call_tables.specs.Tables.{first_rows, second_rows, third_rows, fourth_rows, linux_rows}
use Rattle.call_tables.specs.Tables.{linux_x86_64_table, linux_x86_table, linux_x32_table, linux_aarch64_table}
use Rattle.call_tables.specs.Tables.{linux_arm_table, linux_riscv64_table, linux_ppc64le_table}
use Rattle.call_tables.specs.Tables.{linux_loongarch64_table, linux_s390x_table}
use Rattle.call_tables.specs.Tables.{linux_s390_table}
use Rattle.call_tables.specs.Table.{is_one_to_one}
use Rattle.call_tables.specs.inner.Order.{Ascends, are_sorted}
use Rattle.call_tables.specs.inner.OrderLaws.{ascends, one_to_one}

pub linux-sorted : are_sorted linux_rows ≡ true
unfolding first_rows second_rows third_rows fourth_rows
linux-sorted = refl

pub linux-ascends : Ascends linux_rows
linux-ascends = ascends linux_rows linux-sorted

pub linux_x86_64-one_to_one : is_one_to_one linux_x86_64_table ≡ true
unfolding linux_x86_64_table first_rows second_rows third_rows fourth_rows
linux_x86_64-one_to_one = one_to_one 0 linux_rows linux-ascends refl

pub linux_x86-one_to_one : is_one_to_one linux_x86_table ≡ true
unfolding linux_x86_table first_rows second_rows third_rows fourth_rows
linux_x86-one_to_one = one_to_one 1 linux_rows linux-ascends refl

pub linux_x32-one_to_one : is_one_to_one linux_x32_table ≡ true
unfolding linux_x32_table first_rows second_rows third_rows fourth_rows
linux_x32-one_to_one = one_to_one 2 linux_rows linux-ascends refl

pub linux_aarch64-one_to_one : is_one_to_one linux_aarch64_table ≡ true
unfolding linux_aarch64_table first_rows second_rows third_rows fourth_rows
linux_aarch64-one_to_one = one_to_one 3 linux_rows linux-ascends refl

pub linux_arm-one_to_one : is_one_to_one linux_arm_table ≡ true
unfolding linux_arm_table first_rows second_rows third_rows fourth_rows
linux_arm-one_to_one = one_to_one 4 linux_rows linux-ascends refl

pub linux_riscv64-one_to_one : is_one_to_one linux_riscv64_table ≡ true
unfolding linux_riscv64_table first_rows second_rows third_rows fourth_rows
linux_riscv64-one_to_one = one_to_one 5 linux_rows linux-ascends refl

pub linux_ppc64le-one_to_one : is_one_to_one linux_ppc64le_table ≡ true
unfolding linux_ppc64le_table first_rows second_rows third_rows fourth_rows
linux_ppc64le-one_to_one = one_to_one 6 linux_rows linux-ascends refl

pub linux_loongarch64-one_to_one : is_one_to_one linux_loongarch64_table ≡ true
unfolding linux_loongarch64_table first_rows second_rows third_rows fourth_rows
linux_loongarch64-one_to_one = one_to_one 7 linux_rows linux-ascends refl

pub linux_s390x-one_to_one : is_one_to_one linux_s390x_table ≡ true
unfolding linux_s390x_table first_rows second_rows third_rows fourth_rows
linux_s390x-one_to_one = one_to_one 8 linux_rows linux-ascends refl

pub linux_s390-one_to_one : is_one_to_one linux_s390_table ≡ true
unfolding linux_s390_table first_rows second_rows third_rows fourth_rows
linux_s390-one_to_one = one_to_one 9 linux_rows linux-ascends refl
