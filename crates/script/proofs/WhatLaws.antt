-- A text is read as a call exactly where it is one.
use Rattle.std.proofs.Common.{◌≡◌, ℕ, Bool, true, false, cond, List, [], ◌∷◌, ◌++◌, refl, ap, sym, ◌∙◌, inl, inr, subst}
use Rattle.std.specs.Prelude.{◌⊎◌, Option, Some, None}
use Rattle.std.specs.Option.{option_map}
use Rattle.std.specs.List.{list_all}
use Rattle.std.specs.Str.{bytes_eq}
use Rattle.std.proofs.lemmas.Bool.{and_parts}
use Rattle.std.proofs.lemmas.Option.{same_Some}
use Rattle.std.proofs.lemmas.Slice.Eq.{bytes_eq-Decides}
use Rattle.machines.specs.declared.arch.Arch.{Arch}
use Rattle.machines.specs.declared.arch.Arch.TheVariants.{X86_64, Aarch64, LinuxX86_64, LinuxX86, LinuxX32, LinuxAarch64, LinuxArm, LinuxRiscv64, LinuxPpc64le, LinuxLoongarch64, LinuxS390x, LinuxS390}
use Rattle.machines.specs.declared.arch.Family.{Family}
use Rattle.machines.specs.declared.arch.Family.TheVariants.{Chosen, Whole}
use Rattle.call_tables.specs.Tables.{first_rows, second_rows, third_rows, fourth_rows, x86_64_table, aarch64_table}
use Rattle.call_tables.specs.Tables.{linux_x86_64_table, linux_x86_table, linux_x32_table, linux_aarch64_table, linux_arm_table, linux_riscv64_table, linux_ppc64le_table, linux_loongarch64_table, linux_s390x_table, linux_s390_table}
use Rattle.machines.specs.Arch.{machine_name, family_of, same_family, machine_called, native_called}
use Rattle.call_tables.specs.Tables.{table_of}
use Rattle.call_tables.specs.Table.{Table, number_in}
use Rattle.texts.specs.Splits.{split_at}
use Rattle.texts.proofs.Options.{bind_some, chosen, map_some, tested}
use Rattle.texts.proofs.Splits.{split_at_sound}
use Rattle.script.specs.Grammar.{IsForeign, IsWhat, colon, lacks}
use Rattle.script.specs.inner.Reading.{called, foreign_at, native_or, numbered, what_at, number32_at}
use Rattle.script.proofs.NumberLaws.{number32_at-is, number32_at-some}

-- No call's name has a colon.

abbrev is_plain : List ℕ × ℕ → Bool
is_plain e = lacks colon e.0

named_plain : (t : Table) (text : List ℕ) (nr : ℕ) → list_all is_plain t ≡ true → number_in t text ≡ Some nr → lacks colon text ≡ true
named_plain [] text nr h g = absurd (cc)
named_plain (e ∷ es) text nr h g =
    let parts = and_parts (is_plain e) (list_all is_plain es) h in
    by_test (bytes_eq e.0 text) refl g parts.0 (named_plain es text nr parts.1) where
      by_test : (t : Bool) → bytes_eq e.0 text ≡ t → cond {A = Option ℕ} t (Some e.1) (number_in es text) ≡ Some nr → is_plain e ≡ true
          → (number_in es text ≡ Some nr → lacks colon text ≡ true) → lacks colon text ≡ true
      by_test true same k plain more = let P : List ℕ → Type 0 = λ x. lacks colon x ≡ true in subst P ((bytes_eq-Decides e.0 text).0 same) plain
      by_test false other k plain more = more k

x86_64-plain : list_all is_plain x86_64_table ≡ true
unfolding x86_64_table
x86_64-plain = refl

aarch64-plain : list_all is_plain aarch64_table ≡ true
unfolding aarch64_table
aarch64-plain = refl

linux_x86_64-plain : list_all is_plain linux_x86_64_table ≡ true
unfolding linux_x86_64_table first_rows second_rows third_rows fourth_rows
linux_x86_64-plain = refl

linux_x86-plain : list_all is_plain linux_x86_table ≡ true
unfolding linux_x86_table first_rows second_rows third_rows fourth_rows
linux_x86-plain = refl

linux_x32-plain : list_all is_plain linux_x32_table ≡ true
unfolding linux_x32_table first_rows second_rows third_rows fourth_rows
linux_x32-plain = refl

linux_aarch64-plain : list_all is_plain linux_aarch64_table ≡ true
unfolding linux_aarch64_table first_rows second_rows third_rows fourth_rows
linux_aarch64-plain = refl

linux_arm-plain : list_all is_plain linux_arm_table ≡ true
unfolding linux_arm_table first_rows second_rows third_rows fourth_rows
linux_arm-plain = refl

linux_riscv64-plain : list_all is_plain linux_riscv64_table ≡ true
unfolding linux_riscv64_table first_rows second_rows third_rows fourth_rows
linux_riscv64-plain = refl

linux_ppc64le-plain : list_all is_plain linux_ppc64le_table ≡ true
unfolding linux_ppc64le_table first_rows second_rows third_rows fourth_rows
linux_ppc64le-plain = refl

linux_loongarch64-plain : list_all is_plain linux_loongarch64_table ≡ true
unfolding linux_loongarch64_table first_rows second_rows third_rows fourth_rows
linux_loongarch64-plain = refl

linux_s390x-plain : list_all is_plain linux_s390x_table ≡ true
unfolding linux_s390x_table first_rows second_rows third_rows fourth_rows
linux_s390x-plain = refl

linux_s390-plain : list_all is_plain linux_s390_table ≡ true
unfolding linux_s390_table first_rows second_rows third_rows fourth_rows
linux_s390-plain = refl

table-plain : (arch : Arch) → list_all is_plain (table_of arch) ≡ true
table-plain X86_64 = x86_64-plain
table-plain Aarch64 = aarch64-plain
table-plain LinuxX86_64 = linux_x86_64-plain
table-plain LinuxX86 = linux_x86-plain
table-plain LinuxX32 = linux_x32-plain
table-plain LinuxAarch64 = linux_aarch64-plain
table-plain LinuxArm = linux_arm-plain
table-plain LinuxRiscv64 = linux_riscv64-plain
table-plain LinuxPpc64le = linux_ppc64le-plain
table-plain LinuxLoongarch64 = linux_loongarch64-plain
table-plain LinuxS390x = linux_s390x-plain
table-plain LinuxS390 = linux_s390-plain

foreign_is_not_plain : (arch : Arch) (ds : List ℕ) → lacks colon (machine_name arch ++ colon ∷ ds) ≡ true → ⊥
foreign_is_not_plain X86_64 ds h = cc
foreign_is_not_plain Aarch64 ds h = cc
foreign_is_not_plain LinuxX86_64 ds h = cc
foreign_is_not_plain LinuxX86 ds h = cc
foreign_is_not_plain LinuxX32 ds h = cc
foreign_is_not_plain LinuxAarch64 ds h = cc
foreign_is_not_plain LinuxArm ds h = cc
foreign_is_not_plain LinuxRiscv64 ds h = cc
foreign_is_not_plain LinuxPpc64le ds h = cc
foreign_is_not_plain LinuxLoongarch64 ds h = cc
foreign_is_not_plain LinuxS390x ds h = cc
foreign_is_not_plain LinuxS390 ds h = cc

unnamed : (native arch : Arch) (text : List ℕ) (nr : ℕ) → IsForeign (family_of native) text arch nr → number_in (table_of native) text ≡ None
unnamed native arch text nr f = by_name (number_in (table_of native) text) refl where
  by_name : (o : Option ℕ) → number_in (table_of native) text ≡ o → o ≡ None
  by_name None e = refl
  by_name (Some m) e =
      let P : List ℕ → Type 0 = λ x. lacks colon x ≡ true in
      absurd (foreign_is_not_plain arch f.digits (subst P f.spelled (named_plain (table_of native) text m (table-plain native) e)))

-- A machine and a number.

foreign-some : (family : Family) (arch : Arch) (text ds : List ℕ) (p : Arch × ℕ) → family_of arch ≡ family
    → text ≡ machine_name arch ++ colon ∷ ds
    → option_map (λ (nr : ℕ). (arch, nr)) (number32_at ds) ≡ Some p → IsForeign family text p.0 p.1
foreign-some family arch text ds p of spelled h =
    let m = map_some (number32_at ds) (λ (nr : ℕ). (arch, nr)) p h in
    let w = number32_at-some ds m.0 m.1 in
    let P : Arch × ℕ → Type 0 = λ q. IsForeign family text q.0 q.1 in
    subst P m.2 (record { digits = ds; of_family = of; spelled = spelled; number = w.0; small = w.1 })

-- a machine that a name calls, and that another name calls else
called_some : (own arch : Arch) (name : List ℕ) (rest : Option Arch) → (rest ≡ Some arch → name ≡ machine_name arch)
    → cond (bytes_eq name (machine_name own)) (Some own) rest ≡ Some arch → name ≡ machine_name arch
called_some own arch name rest more h = by_side (chosen (bytes_eq name (machine_name own)) (Some own) rest arch h) where
  by_side : ((bytes_eq name (machine_name own) ≡ true) × (Some own ≡ Some arch)) ⊎ ((bytes_eq name (machine_name own) ≡ false) × (rest ≡ Some arch))
      → name ≡ machine_name arch
  by_side (inl g) = (bytes_eq-Decides name (machine_name own)).0 g.0 ∙ ap machine_name (same_Some own arch g.1)
  by_side (inr g) = more g.1

native_called-some : (name : List ℕ) (arch : Arch) → native_called name ≡ Some arch → name ≡ machine_name arch
unfolding native_called
native_called-some name arch h =
    called_some X86_64 arch name _ (called_some Aarch64 arch name _ (called_some LinuxX86_64 arch name _
    (called_some LinuxAarch64 arch name _ (called_some LinuxRiscv64 arch name _ (called_some LinuxPpc64le arch name _ (called_some LinuxLoongarch64 arch name _
    (called_some LinuxS390x arch name None (λ e. absurd (cc))))))))) h

machine_called-some : (name : List ℕ) (arch : Arch) → machine_called name ≡ Some arch → name ≡ machine_name arch
unfolding machine_called
machine_called-some name arch h =
    called_some LinuxX86 arch name _ (called_some LinuxX32 arch name _ (called_some LinuxArm arch name _
    (called_some LinuxS390 arch name (native_called name) (native_called-some name arch)))) h

same_family-is : (family other : Family) → same_family family other ≡ true → family ≡ other
same_family-is Chosen Chosen h = refl
same_family-is Chosen Whole h = absurd (cc)
same_family-is Whole Chosen h = absurd (cc)
same_family-is Whole Whole h = refl

foreign_at-some : (family : Family) (text : List ℕ) (p : Arch × ℕ) → foreign_at family text ≡ Some p → IsForeign family text p.0 p.1
unfolding foreign_at
foreign_at-some family text p h =
    let cut = bind_some (split_at colon text) (called family) p h in
    let found = bind_some (machine_called cut.0.0) (numbered family cut.0.1) p cut.2 in
    let own = tested (same_family (family_of found.0) family) (option_map (λ (nr : ℕ). (found.0, nr)) (number32_at cut.0.1)) p found.2 in
    let name : cut.0.0 ≡ machine_name found.0 = machine_called-some cut.0.0 found.0 found.1 in
    let spelled : text ≡ machine_name found.0 ++ colon ∷ cut.0.1 =
    (split_at_sound colon text cut.0 cut.1).0 ∙ ap (λ w. w ++ colon ∷ cut.0.1) name in
    foreign-some family found.0 text cut.0.1 p (same_family-is (family_of found.0) family own.0) spelled own.1

foreign_at-spelled : (arch : Arch) (ds : List ℕ)
    → foreign_at (family_of arch) (machine_name arch ++ colon ∷ ds) ≡ option_map (λ (nr : ℕ). (arch, nr)) (number32_at ds)
unfolding foreign_at machine_called native_called
foreign_at-spelled X86_64 ds = refl
foreign_at-spelled Aarch64 ds = refl
foreign_at-spelled LinuxX86_64 ds = refl
foreign_at-spelled LinuxX86 ds = refl
foreign_at-spelled LinuxX32 ds = refl
foreign_at-spelled LinuxAarch64 ds = refl
foreign_at-spelled LinuxArm ds = refl
foreign_at-spelled LinuxRiscv64 ds = refl
foreign_at-spelled LinuxPpc64le ds = refl
foreign_at-spelled LinuxLoongarch64 ds = refl
foreign_at-spelled LinuxS390x ds = refl
foreign_at-spelled LinuxS390 ds = refl

foreign_at-is : (family : Family) (text : List ℕ) (arch : Arch) (nr : ℕ) → IsForeign family text arch nr
    → foreign_at family text ≡ Some (arch, nr)
foreign_at-is family text arch nr f =
    ap (λ g. foreign_at g text) (sym f.of_family) ∙ ap (foreign_at (family_of arch)) f.spelled ∙ foreign_at-spelled arch f.digits
    ∙ ap (option_map (λ (n : ℕ). (arch, n))) (number32_at-is f.digits nr f.number f.small)

-- A native name, or a machine and a number.

pub what_at-some : (native : Arch) (text : List ℕ) (p : Arch × ℕ) → what_at native text ≡ Some p → IsWhat native text p.0 p.1
unfolding what_at
what_at-some native text p h = by_name (number_in (table_of native) text) refl h where
  by_name : (o : Option ℕ) → number_in (table_of native) text ≡ o → native_or native o text ≡ Some p → IsWhat native text p.0 p.1
  by_name (Some nr) e g =
      let same : (native, nr) ≡ p = cc in
      let P : Arch × ℕ → Type 0 = λ q. IsWhat native text q.0 q.1 in
      subst P same (inl (refl, e))
  by_name None e g = inr (foreign_at-some (family_of native) text p g)

pub what_at-is : (native : Arch) (text : List ℕ) (arch : Arch) (nr : ℕ) → IsWhat native text arch nr → what_at native text ≡ Some (arch, nr)
unfolding what_at
what_at-is native text arch nr (inl (same, named)) =
    ap (λ o. native_or native o text) named ∙ ap (λ a. Some (a, nr)) (sym same)
what_at-is native text arch nr (inr f) =
    ap (λ o. native_or native o text) (unnamed native arch text nr f) ∙ foreign_at-is (family_of native) text arch nr f
