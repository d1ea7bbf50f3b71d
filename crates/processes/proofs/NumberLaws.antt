-- A call is told by its number as it is by its name, where the machine's look-ups undo each other.
use Rattle.std.proofs.Common.{◌≡◌, ℕ, ◌==◌, Bool, true, false, List, [], ◌∷◌, Option, None, Some, if◌then◌else◌, refl, sym, ◌∙◌, ap}
use Rattle.std.specs.Str.{bytes_eq}
use Rattle.std.proofs.lemmas.Bool.Decides.{Decides-eqb}
use Rattle.std.proofs.lemmas.Slice.Eq.{bytes_eq-Decides}
use Rattle.machines.specs.declared.arch.Arch.{Arch}
use Rattle.call_tables.specs.Tables.{table_of}
use Rattle.call_tables.specs.Tables.{first_rows, second_rows, third_rows, fourth_rows, x86_64_table, aarch64_table}
use Rattle.call_tables.specs.Tables.{linux_x86_64_table, linux_x86_table, linux_x32_table, linux_aarch64_table, linux_arm_table, linux_riscv64_table, linux_ppc64le_table, linux_loongarch64_table, linux_s390x_table, linux_s390_table}
use Rattle.call_tables.specs.Table.{IsInverse, Table, name_in, number_in}
use Rattle.call_tables.proofs.InverseLaws.{table_of-inverse}
use Rattle.processes.specs.Calls.{call_beside, named_calls}
use Rattle.processes.specs.declared.calls.Call.{Call}
use Rattle.processes.specs.declared.calls.TheConstants.{X86_64_NUMBERS, X86_NUMBERS, X32_NUMBERS, AARCH64_NUMBERS, ARM_NUMBERS, PPC64LE_NUMBERS, S390_NUMBERS}
use Rattle.processes.specs.inner.Numbers.{call_at, numbers_in, with_number}

module _ (t : Table) (inverse : IsInverse t) (name : List ℕ) (nr : ℕ) (named : name_in t nr ≡ Some name) where
  -- the name that is looked for stands first
  hit : (n : List ℕ) (c : Call) (rest : List (ℕ × Call)) → n ≡ name → call_at (with_number (number_in t n) c rest) nr ≡ c
  hit n c rest same =
      let is : number_in t n ≡ Some nr = ap (number_in t) same ∙ (inverse name nr).1 named in
      rw (is, (Decides-eqb nr nr).1 refl) refl

  -- another one stands first, whose number is another
  miss : (n : List ℕ) (c : Call) (rest : List (ℕ × Call)) (o : Option ℕ) → number_in t n ≡ o → bytes_eq n name ≡ false
      → call_at (with_number o c rest) nr ≡ call_at rest nr
  miss n c rest None is other = refl
  miss n c rest (Some m) is other = by (m == nr) refl
    where
      by : (b : Bool) → (m == nr) ≡ b → (if b then c else call_at rest nr) ≡ call_at rest nr
      by true h =
          let number : m ≡ nr = (Decides-eqb m nr).0 h in
          let found : name_in t nr ≡ Some n = (inverse n nr).0 (is ∙ ap Some number) in
          let both : Some n ≡ Some name = sym found ∙ named in
          let same : n ≡ name = cc in
          let bad : true ≡ false = sym ((bytes_eq-Decides n name).1 same) ∙ other in absurd (cc)
      by false h = refl

  first : (n : List ℕ) (c : Call) (es : List (List ℕ × Call)) (b : Bool) → bytes_eq n name ≡ b
      → call_at (numbers_in t es) nr ≡ call_beside es name
      → call_at (with_number (number_in t n) c (numbers_in t es)) nr ≡ (if b then c else call_beside es name)
  first n c es true h rest = hit n c (numbers_in t es) ((bytes_eq-Decides n name).0 h)
  first n c es false h rest = miss n c (numbers_in t es) (number_in t n) refl h ∙ rest

  pub told_by_number : (es : List (List ℕ × Call)) → call_at (numbers_in t es) nr ≡ call_beside es name
  told_by_number [] = refl
  told_by_number (e ∷ es) = first e.0 e.1 es (bytes_eq e.0 name) refl (told_by_number es)

-- of the named calls, on each machine
pub call_numbered : (native : Arch) (name : List ℕ) (nr : ℕ) → name_in (table_of native) nr ≡ Some name
    → call_at (numbers_in (table_of native) named_calls) nr ≡ call_beside named_calls name
call_numbered native name nr named = told_by_number (table_of native) (table_of-inverse native) name nr named named_calls

-- ---- the lists of the machines, each computed from its table

pub x86_64_numbers : X86_64_NUMBERS.now ≡ numbers_in x86_64_table named_calls
unfolding x86_64_table
x86_64_numbers = refl

pub aarch64_numbers : AARCH64_NUMBERS.now ≡ numbers_in aarch64_table named_calls
unfolding aarch64_table
aarch64_numbers = refl

pub linux_x86_64_numbers : X86_64_NUMBERS.now ≡ numbers_in linux_x86_64_table named_calls
unfolding linux_x86_64_table first_rows second_rows third_rows fourth_rows
linux_x86_64_numbers = refl

pub linux_x86_numbers : X86_NUMBERS.now ≡ numbers_in linux_x86_table named_calls
unfolding linux_x86_table first_rows second_rows third_rows fourth_rows
linux_x86_numbers = refl

pub linux_x32_numbers : X32_NUMBERS.now ≡ numbers_in linux_x32_table named_calls
unfolding linux_x32_table first_rows second_rows third_rows fourth_rows
linux_x32_numbers = refl

pub linux_aarch64_numbers : AARCH64_NUMBERS.now ≡ numbers_in linux_aarch64_table named_calls
unfolding linux_aarch64_table first_rows second_rows third_rows fourth_rows
linux_aarch64_numbers = refl

pub linux_arm_numbers : ARM_NUMBERS.now ≡ numbers_in linux_arm_table named_calls
unfolding linux_arm_table first_rows second_rows third_rows fourth_rows
linux_arm_numbers = refl

pub linux_riscv64_numbers : AARCH64_NUMBERS.now ≡ numbers_in linux_riscv64_table named_calls
unfolding linux_riscv64_table first_rows second_rows third_rows fourth_rows
linux_riscv64_numbers = refl

pub linux_ppc64le_numbers : PPC64LE_NUMBERS.now ≡ numbers_in linux_ppc64le_table named_calls
unfolding linux_ppc64le_table first_rows second_rows third_rows fourth_rows
linux_ppc64le_numbers = refl

pub linux_loongarch64_numbers : AARCH64_NUMBERS.now ≡ numbers_in linux_loongarch64_table named_calls
unfolding linux_loongarch64_table first_rows second_rows third_rows fourth_rows
linux_loongarch64_numbers = refl

pub linux_s390x_numbers : S390_NUMBERS.now ≡ numbers_in linux_s390x_table named_calls
unfolding linux_s390x_table first_rows second_rows third_rows fourth_rows
linux_s390x_numbers = refl

pub linux_s390_numbers : S390_NUMBERS.now ≡ numbers_in linux_s390_table named_calls
unfolding linux_s390_table first_rows second_rows third_rows fourth_rows
linux_s390_numbers = refl
