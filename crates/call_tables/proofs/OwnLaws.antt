-- The numbers in a machine's table are among those of its calls, and so its own: computed over the tables.
use Rattle.std.proofs.Common.{◌≡◌, ℕ, ◌≤◌, Bool, true, inl, inr, List, [], ◌∷◌, Some, refl, sym, ◌∙◌, subst, arith}
use Rattle.std.specs.Prelude.{nat_le}
use Rattle.std.specs.List.{list_all, list_any}
use Rattle.std.specs.Str.{bytes_eq}
use Rattle.std.proofs.lemmas.Bool.{and_parts, cases_Bool}
use Rattle.std.proofs.lemmas.Bool.Decides.{nat_tests}
use Rattle.std.proofs.lemmas.List.Folds.{Any-from_list_any}
use Rattle.std.proofs.lemmas.Option.{same_Some}
use Rattle.machines.specs.declared.arch.Arch.{Arch}
use Rattle.machines.specs.declared.arch.Arch.TheVariants.{X86_64, Aarch64, LinuxX86_64, LinuxX86, LinuxX32, LinuxAarch64, LinuxArm, LinuxRiscv64, LinuxPpc64le, LinuxLoongarch64, LinuxS390x, LinuxS390}
use Rattle.machines.specs.declared.numbers.Numbers.{Numbers}
use Rattle.call_tables.specs.Table.{Table, number_in}
use Rattle.call_tables.specs.Tables.{first_rows, second_rows, third_rows, fourth_rows, x86_64_table, aarch64_table}
use Rattle.call_tables.specs.Tables.{linux_x86_64_table, linux_x86_table, linux_x32_table, linux_aarch64_table, linux_arm_table, linux_riscv64_table, linux_ppc64le_table, linux_loongarch64_table, linux_s390x_table, linux_s390_table}
use Rattle.call_tables.specs.Tables.{table_of}
use Rattle.machines.specs.Numbers.{call_numbers, IsWithin, IsOwn, IsAmong, is_within}
use Rattle.machines.proofs.NumberLaws.{among_own}
use Rattle.call_tables.proofs.TableLaws.{number_here, number_past}

abbrev are_among : Arch → Table → Bool
are_among arch = list_all (λ e. list_any (is_within e.1) (call_numbers arch))

x86_64-among : are_among X86_64 x86_64_table ≡ true
unfolding x86_64_table
x86_64-among = refl

aarch64-among : are_among Aarch64 aarch64_table ≡ true
unfolding aarch64_table
aarch64-among = refl

linux_x86_64-among : are_among LinuxX86_64 linux_x86_64_table ≡ true
unfolding linux_x86_64_table first_rows second_rows third_rows fourth_rows
linux_x86_64-among = refl

linux_x86-among : are_among LinuxX86 linux_x86_table ≡ true
unfolding linux_x86_table first_rows second_rows third_rows fourth_rows
linux_x86-among = refl

linux_x32-among : are_among LinuxX32 linux_x32_table ≡ true
unfolding linux_x32_table first_rows second_rows third_rows fourth_rows
linux_x32-among = refl

linux_aarch64-among : are_among LinuxAarch64 linux_aarch64_table ≡ true
unfolding linux_aarch64_table first_rows second_rows third_rows fourth_rows
linux_aarch64-among = refl

linux_arm-among : are_among LinuxArm linux_arm_table ≡ true
unfolding linux_arm_table first_rows second_rows third_rows fourth_rows
linux_arm-among = refl

linux_riscv64-among : are_among LinuxRiscv64 linux_riscv64_table ≡ true
unfolding linux_riscv64_table first_rows second_rows third_rows fourth_rows
linux_riscv64-among = refl

linux_ppc64le-among : are_among LinuxPpc64le linux_ppc64le_table ≡ true
unfolding linux_ppc64le_table first_rows second_rows third_rows fourth_rows
linux_ppc64le-among = refl

linux_loongarch64-among : are_among LinuxLoongarch64 linux_loongarch64_table ≡ true
unfolding linux_loongarch64_table first_rows second_rows third_rows fourth_rows
linux_loongarch64-among = refl

linux_s390x-among : are_among LinuxS390x linux_s390x_table ≡ true
unfolding linux_s390x_table first_rows second_rows third_rows fourth_rows
linux_s390x-among = refl

linux_s390-among : are_among LinuxS390 linux_s390_table ≡ true
unfolding linux_s390_table first_rows second_rows third_rows fourth_rows
linux_s390-among = refl

within : (nr : ℕ) (numbers : Numbers) → is_within nr numbers ≡ true → IsWithin nr numbers
within nr numbers h =
    let parts = and_parts (nat_le numbers.first nr) (nat_le nr numbers.last) h in
    let from : numbers.first ≤ nr = grind (arith, nat_tests, parts.0) in
    let upto : nr ≤ numbers.last = grind (arith, nat_tests, parts.1) in
    (from, upto)

among : (arch : Arch) (nr : ℕ) → list_any (is_within nr) (call_numbers arch) ≡ true → IsAmong arch nr
among arch nr h =
    let (k, numbers, lt, at, is) = Any-from_list_any (is_within nr) (call_numbers arch) h in
    (k, numbers, lt, at, within nr numbers is)

found : (arch : Arch) (t : Table) (name : List ℕ) (nr : ℕ) → are_among arch t ≡ true → number_in t name ≡ Some nr → IsAmong arch nr
found arch [] name nr h e = cc
found arch ((n, k) ∷ es) name nr h e =
    let parts = and_parts (list_any (is_within k) (call_numbers arch)) (are_among arch es) h in
    elim (cases_Bool (bytes_eq n name)) [
      | inl hit ↦ subst (IsAmong arch) (same_Some k nr (sym (number_here n k es name hit) ∙ e)) (among arch k parts.0)
      | inr miss ↦ found arch es name nr parts.1 (sym (number_past n k es name miss) ∙ e)
    ]

pub table_of-among : (arch : Arch) (name : List ℕ) (nr : ℕ) → number_in (table_of arch) name ≡ Some nr → IsAmong arch nr
table_of-among X86_64 name nr = found X86_64 x86_64_table name nr x86_64-among
table_of-among Aarch64 name nr = found Aarch64 aarch64_table name nr aarch64-among
table_of-among LinuxX86_64 name nr = found LinuxX86_64 linux_x86_64_table name nr linux_x86_64-among
table_of-among LinuxX86 name nr = found LinuxX86 linux_x86_table name nr linux_x86-among
table_of-among LinuxX32 name nr = found LinuxX32 linux_x32_table name nr linux_x32-among
table_of-among LinuxAarch64 name nr = found LinuxAarch64 linux_aarch64_table name nr linux_aarch64-among
table_of-among LinuxArm name nr = found LinuxArm linux_arm_table name nr linux_arm-among
table_of-among LinuxRiscv64 name nr = found LinuxRiscv64 linux_riscv64_table name nr linux_riscv64-among
table_of-among LinuxPpc64le name nr = found LinuxPpc64le linux_ppc64le_table name nr linux_ppc64le-among
table_of-among LinuxLoongarch64 name nr = found LinuxLoongarch64 linux_loongarch64_table name nr linux_loongarch64-among
table_of-among LinuxS390x name nr = found LinuxS390x linux_s390x_table name nr linux_s390x-among
table_of-among LinuxS390 name nr = found LinuxS390 linux_s390_table name nr linux_s390-among

pub table_of-own : (arch : Arch) (name : List ℕ) (nr : ℕ) → number_in (table_of arch) name ≡ Some nr → IsOwn arch nr
table_of-own arch name nr h = among_own arch nr (table_of-among arch name nr h)
