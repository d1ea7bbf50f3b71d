-- Why no profile is built, told of what was added.
use Rattle.std.proofs.Common.{◌≡◌, ◌≢◌, ℕ, ◌≤◌, List, [], ◌∷◌, length, map, sym, subst, ap, ◌∙◌, arith, Some, None}
use Rattle.std.proofs.Common.{length-append, Bool, true, false, ◌==◌}
use Rattle.std.specs.Prelude.{if◌then◌else◌}
use Rattle.std.specs.List.{Contains, slice_get}
use Rattle.std.proofs.lemmas.List.{length-map}
use Rattle.std.proofs.lemmas.Option.{same_Some}
use Rattle.machines.specs.declared.arch.Arch.{Arch}
use Rattle.machines.specs.declared.arch.Arch.TheVariants.{LinuxX86_64, LinuxX86, LinuxX32, LinuxAarch64, LinuxArm, LinuxRiscv64, LinuxPpc64le, LinuxLoongarch64}
use Rattle.machines.specs.declared.arch.Family.TheVariants.{Whole}
use Rattle.machines.specs.Arch.{AreOfFamily, family_of}
use Rattle.profile.specs.declared.fault.BuildError.TheVariants as build
use Rattle.profile.specs.declared.rules.Rule.{Rule}
use Rattle.profile.specs.Build.{IsFirstCause, KeepsOnce}
use Rattle.profile.specs.Build as keeps
use Rattle.filter_c.specs.declared.added.fault.AddedError.TheVariants as error
use Rattle.filter_c.specs.declared.added.given.AddedRule.{AddedRule}
use Rattle.filter_c.specs.Machine.{machine_with}
use Rattle.filter_c.specs.Parts.{RuleParts, added_rule, kept_rule}
use Rattle.filter_c.specs.Refusal.{IsAbsent, IsCause}
use Rattle.filter_c.proofs.Lists.{all_by, at_map, at_map_back, contains_map, contains_map_back}
use Rattle.filter_c.proofs.Same.{is_added, same_action}

-- no more are kept than there are
kept_short : (rules kept : List Rule) → KeepsOnce rules kept → length kept ≤ length rules
kept_short _ _ keeps.none = omega arith
kept_short _ _ (keeps.first rules kept rule h new) =
    let shorter = kept_short rules kept h in
    omega (arith, shorter, length-append rules (rule ∷ []), length-append kept (rule ∷ []))
kept_short _ _ (keeps.again rules kept rule h has) =
    let shorter = kept_short rules kept h in omega (arith, shorter, length-append rules (rule ∷ []))

-- each machine with a number is of all of Linux
whole : (n : ℕ) (a : Arch) → machine_with n ≡ Some a → family_of a ≡ Whole
whole n a is =
    at (n == 0xc000003e) (n == 0x40000003) (n == 0x4000003e) (n == 0xc00000b7) (n == 0x40000028) (n == 0xc00000f3) (n == 0xc0000015) (n == 0xc0000102) is where
      at : (x64 x86 x32 arm64 arm riscv64 ppc64le loongarch64 : Bool)
          → (if x64 then Some LinuxX86_64 else if x86 then Some LinuxX86 else if x32 then Some LinuxX32 else if arm64 then Some LinuxAarch64 else if arm then Some LinuxArm else if riscv64 then Some LinuxRiscv64 else if ppc64le then Some LinuxPpc64le else if loongarch64 then Some LinuxLoongarch64 else None) ≡ Some a
          → family_of a ≡ Whole
      at true x86 x32 arm64 arm riscv64 ppc64le loongarch64 e = let s : LinuxX86_64 ≡ a = cc in cc
      at false true x32 arm64 arm riscv64 ppc64le loongarch64 e = let s : LinuxX86 ≡ a = cc in cc
      at false false true arm64 arm riscv64 ppc64le loongarch64 e = let s : LinuxX32 ≡ a = cc in cc
      at false false false true arm riscv64 ppc64le loongarch64 e = let s : LinuxAarch64 ≡ a = cc in cc
      at false false false false true riscv64 ppc64le loongarch64 e = let s : LinuxArm ≡ a = cc in cc
      at false false false false false true ppc64le loongarch64 e = let s : LinuxRiscv64 ≡ a = cc in cc
      at false false false false false false true loongarch64 e = let s : LinuxPpc64le ≡ a = cc in cc
      at false false false false false false false true e = let s : LinuxLoongarch64 ≡ a = cc in cc
      at false false false false false false false false e = cc

module _ (native : ℕ) (machines : List ℕ) (added : List AddedRule) (arch : Arch) (archs : List Arch) (rules : List Rule)
    (native_is : machine_with native ≡ Some arch) (same_archs : map (λ (a : Arch). Some a) archs ≡ map machine_with machines)
    (same : map kept_rule rules ≡ map added_rule added) where
  arch_of : (n : ℕ) (a : Arch) → Contains machines n → machine_with n ≡ Some a → Contains archs a
  arch_of n a c is =
      let found = contains_map_back (λ (b : Arch). Some b) archs (machine_with n)
      (subst (λ l. Contains l (machine_with n)) (sym same_archs) (contains_map machine_with machines n c)) in
      subst (Contains archs) (same_Some found.0 a (found.2 ∙ is)) found.1

  number_of : (a : Arch) → Contains archs a → (n : ℕ) × Contains machines n × (machine_with n ≡ Some a)
  number_of a c =
      contains_map_back machine_with machines (Some a)
      (subst (λ l. Contains l (Some a)) same_archs (contains_map (λ (b : Arch). Some b) archs a c))

  absent : (n : ℕ) (a : Arch) → machine_with n ≡ Some a → ¬ Contains archs a → IsAbsent machines n
  absent n a is none = all_by (λ m. machine_with m ≢ machine_with n) machines (λ m has e. none (arch_of m a has (e ∙ is)))

  given_at : (i : ℕ) (rule : Rule) → slice_get rules i ≡ Some rule → (g : AddedRule) × (slice_get added i ≡ Some g) × (added_rule g ≡ kept_rule rule)
  given_at i rule at =
      at_map_back added_rule added i (kept_rule rule)
      (subst (λ l. slice_get l i ≡ Some (kept_rule rule)) same (at_map kept_rule rules i rule at))

  same_machine : (g : AddedRule) (rule : Rule) → added_rule g ≡ kept_rule rule → machine_with g.machine ≡ Some rule.arch
  same_machine g rule e = ap (λ (p : RuleParts). p.machine) e

  pub one_family : AreOfFamily (family_of arch) archs
  one_family = all_by (λ a. family_of a ≡ family_of arch) archs (λ a has.
      let at = number_of a has in whole at.0 a at.2 ∙ sym (whole native arch native_is))

  pub no_native : IsFirstCause arch archs rules build.NativeMissing → IsCause native machines added error.NativeMissing
  no_native none = absent native arch native_is none

  pub foreign : (i : ℕ) → IsFirstCause arch archs rules (build.ForeignRule i) → IsCause native machines added (error.ForeignRule i)
  foreign i (listed, first) =
      let at = given_at i first.rule first.at in
      (at.0, at.1, absent at.0.machine first.rule.arch (same_machine at.0 first.rule at.2) first.foreign)

  pub too_many : IsFirstCause arch archs rules build.TooMany → IsCause native machines added error.TooMany
  too_many (listed, all, (kept, keep, more)) =
      let shorter = kept_short rules kept keep in
      let long : length rules ≡ length added = sym (length-map rules kept_rule) ∙ ap length same ∙ length-map added added_rule in
      omega (arith, more, shorter, long)

  pub overlap : (i j : ℕ) → IsFirstCause arch archs rules (build.Overlap i j) → IsCause native machines added (error.Overlap i j)
  overlap i j (listed, all, few, first) =
      let clash = first.clash in
      let a = clash.1 in
      let b = clash.2 in
      let meet = clash.5 in
      let x = given_at i a clash.3 in
      let y = given_at j b clash.4 in record {
        order = clash.0;
        first = x.0;
        first_at = x.1;
        second = y.0;
        second_at = y.1;
        unlike = λ e. meet.0 (same_action a x.0 (sym x.2) ∙ e ∙ sym (same_action b y.0 (sym y.2)));
        call = meet.1.0;
        is_record = meet.1.1;
        matches_first = is_added meet.1.0 a x.0 (sym x.2) meet.1.2;
        matches_second = is_added meet.1.0 b y.0 (sym y.2) meet.1.3;
      }
