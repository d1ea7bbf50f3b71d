-- Each number of a table is small.
use Rattle.std.proofs.Common.{◌≡◌, ℕ, suc, ◌<◌, ◌≤◌, true, false, cond, eqb, List, [], ◌∷◌, refl, sym, ap, ◌∙◌}
use Rattle.std.proofs.Common.{arith, ⊎_elim}
use Rattle.std.specs.Prelude.{Any, Contains, Some, nat_lt}
use Rattle.std.proofs.lemmas.Bool.{and_parts, leb-true}
use Rattle.std.proofs.lemmas.Bool.Decides.{eqb_tells}
use Rattle.std.proofs.lemmas.List.Elements.{All-contains_itself, All-weaker}
use Rattle.machines.specs.declared.arch.Arch.{Arch}
use Rattle.machines.specs.declared.arch.Arch.TheVariants.{X86_64, Aarch64, LinuxX86_64, LinuxX86, LinuxX32, LinuxAarch64, LinuxArm, LinuxRiscv64, LinuxPpc64le, LinuxLoongarch64, LinuxS390x, LinuxS390}
use Rattle.machines.specs.declared.numbers.Numbers.{Numbers}
use Rattle.machines.specs.Arch.{token_of}
use Rattle.call_tables.specs.Tables.{table_of}
use Rattle.call_tables.specs.Tables.{first_rows, second_rows, third_rows, fourth_rows, x86_64_table, aarch64_table}
use Rattle.call_tables.specs.Tables.{linux_x86_64_table, linux_x86_table, linux_aarch64_table, linux_riscv64_table, linux_ppc64le_table, linux_loongarch64_table, linux_s390x_table, linux_s390_table}
use Rattle.machines.specs.Numbers.{from_to, HasCall, IsOwn, IsWithin}
use Rattle.call_tables.specs.Table.{Table, name_in}
use Rattle.profile.specs.declared.rules.Rule.{Rule}
use Rattle.rule_compile.specs.Shape.{AreSmallNative, IsPlainRule, above_all_numbers}
use Rattle.maker.specs.evidence.Tables.{HasSmallNumbers, IsTableRule, IsX32Beside, TableProfilesArePlain, are_below}

below : (n : ℕ) (t : Table) (nr : ℕ) (name : List ℕ) → are_below n t ≡ true → name_in t nr ≡ Some name → nr < n
below n [] nr name all found = cc
below n (e ∷ es) nr name all found =
    let parts = and_parts (nat_lt e.1 n) (are_below n es) all in
    ⊎_elim
    (λ (here : (eqb e.1 nr ≡ true) × (e.1 ≡ nr)). let less = leb-true (suc e.1) n parts.0 in omega (arith, less, here.1))
    (λ (past : (eqb e.1 nr ≡ false) × (e.1 ≡ nr → ⊥)).
    below n es nr name parts.1 (sym (ap (λ b. cond b (Some e.0) (name_in es nr)) past.0) ∙ found))
    (eqb_tells e.1 nr)

x86_64_below : are_below above_all_numbers x86_64_table ≡ true
unfolding x86_64_table
x86_64_below = refl

aarch64_below : are_below above_all_numbers aarch64_table ≡ true
unfolding aarch64_table
aarch64_below = refl

linux_x86_64_below : are_below above_all_numbers linux_x86_64_table ≡ true
unfolding linux_x86_64_table first_rows second_rows third_rows fourth_rows
linux_x86_64_below = refl

linux_x86_below : are_below above_all_numbers linux_x86_table ≡ true
unfolding linux_x86_table first_rows second_rows third_rows fourth_rows
linux_x86_below = refl

linux_aarch64_below : are_below above_all_numbers linux_aarch64_table ≡ true
unfolding linux_aarch64_table first_rows second_rows third_rows fourth_rows
linux_aarch64_below = refl

linux_riscv64_below : are_below above_all_numbers linux_riscv64_table ≡ true
unfolding linux_riscv64_table first_rows second_rows third_rows fourth_rows
linux_riscv64_below = refl

linux_ppc64le_below : are_below above_all_numbers linux_ppc64le_table ≡ true
unfolding linux_ppc64le_table first_rows second_rows third_rows fourth_rows
linux_ppc64le_below = refl

linux_loongarch64_below : are_below above_all_numbers linux_loongarch64_table ≡ true
unfolding linux_loongarch64_table first_rows second_rows third_rows fourth_rows
linux_loongarch64_below = refl

linux_s390x_below : are_below above_all_numbers linux_s390x_table ≡ true
unfolding linux_s390x_table first_rows second_rows third_rows fourth_rows
linux_s390x_below = refl

linux_s390_below : are_below above_all_numbers linux_s390_table ≡ true
unfolding linux_s390_table first_rows second_rows third_rows fourth_rows
linux_s390_below = refl

tables_below : (arch : Arch) → HasSmallNumbers arch → are_below above_all_numbers (table_of arch) ≡ true
tables_below X86_64 small = x86_64_below
tables_below Aarch64 small = aarch64_below
tables_below LinuxX86_64 small = linux_x86_64_below
tables_below LinuxX86 small = linux_x86_below
tables_below LinuxX32 small = absurd small
tables_below LinuxAarch64 small = linux_aarch64_below
tables_below LinuxArm small = absurd small
tables_below LinuxRiscv64 small = linux_riscv64_below
tables_below LinuxPpc64le small = linux_ppc64le_below
tables_below LinuxLoongarch64 small = linux_loongarch64_below
tables_below LinuxS390x small = linux_s390x_below
tables_below LinuxS390 small = linux_s390_below

-- a rule of the tables is plain
pub table_rule_is_plain : (rule : Rule) → IsTableRule rule → IsPlainRule rule
table_rule_is_plain rule (conds, small, (name, found)) =
    (conds, below above_all_numbers (table_of rule.arch) rule.nr name (tables_below rule.arch small) found)

-- ---- small numbers are a listed machine's own

module _ (machines : List Arch) (nr : ℕ) (less : nr < above_all_numbers) where
  first_own : (last : ℕ) (rest : List Numbers) → nr ≤ last → Any (IsWithin nr) (from_to 0 last ∷ rest)
  first_own last rest within = (0, from_to 0 last, omega arith, refl, (omega arith, within))

  listed_own : (arch : Arch) → Contains machines arch → IsOwn arch nr → Any (HasCall (token_of arch) nr) machines
  listed_own arch listed own = (listed.0, arch, listed.1, listed.2, (refl, own))

  x86_64_native : Contains machines LinuxX86_64 → Any (HasCall (token_of LinuxX86_64) nr) machines
  x86_64_native listed = listed_own LinuxX86_64 listed (first_own 0x3fffffff (from_to 0xffffffff 0xffffffff ∷ []) (omega (arith, less)))

  small_native : IsX32Beside machines → (arch : Arch) → Contains machines arch → Any (HasCall (token_of arch) nr) machines
  small_native beside X86_64 listed = listed_own X86_64 listed (first_own 0x3fffffff [] (omega (arith, less)))
  small_native beside Aarch64 listed = listed_own Aarch64 listed (first_own 0xffffffff [] (omega (arith, less)))
  small_native beside LinuxX86_64 listed = x86_64_native listed
  small_native beside LinuxX86 listed = listed_own LinuxX86 listed (first_own 0xffffffff [] (omega (arith, less)))
  small_native beside LinuxX32 listed = x86_64_native (beside listed)
  small_native beside LinuxAarch64 listed = listed_own LinuxAarch64 listed (first_own 0xffffffff [] (omega (arith, less)))
  small_native beside LinuxArm listed = listed_own LinuxArm listed (first_own 0xffffffff [] (omega (arith, less)))
  small_native beside LinuxRiscv64 listed = listed_own LinuxRiscv64 listed (first_own 0xffffffff [] (omega (arith, less)))
  small_native beside LinuxPpc64le listed = listed_own LinuxPpc64le listed (first_own 0xffffffff [] (omega (arith, less)))
  small_native beside LinuxLoongarch64 listed = listed_own LinuxLoongarch64 listed (first_own 0xffffffff [] (omega (arith, less)))
  small_native beside LinuxS390x listed = listed_own LinuxS390x listed (first_own 0xffffffff [] (omega (arith, less)))
  small_native beside LinuxS390 listed = listed_own LinuxS390 listed (first_own 0xffffffff [] (omega (arith, less)))

pub beside_small : (machines : List Arch) → IsX32Beside machines → AreSmallNative machines
beside_small machines beside =
    All-weaker (Contains machines) (λ arch. (nr : ℕ) → nr < above_all_numbers → Any (HasCall (token_of arch) nr) machines)
    (λ arch listed nr less. small_native machines nr less beside arch listed) machines (All-contains_itself machines)

pub tables_are_plain : TableProfilesArePlain
tables_are_plain policy is few beside rules = record {
  rules = All-weaker IsTableRule IsPlainRule table_rule_is_plain policy.rules rules;
  small = beside_small policy.machines beside;
  few = few;
  clear = is.clear;
}
