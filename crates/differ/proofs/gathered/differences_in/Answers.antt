use Rattle.std.proofs.Common.{◌≡◌, ℕ, List, true, ap, ◌∙◌, subst}
use Rattle.machines.specs.Machines.{aarch64_token, arm_token, loongarch64_token, ppc64le_token, riscv64_token, s390_token, s390x_token, x86_64_token, x86_token}
use Rattle.differ.specs.Differences.{AreTold, IsAnswered, IsCovered}
use Rattle.differ.specs.declared.gathered.Differences.{Differences}
use Rattle.differ.specs.declared.named.Call.{Call}
use Rattle.differ.specs.Named.{AreCovered, is_named}
use Rattle.differ.proofs.GatheredLaws.{all_covered, answered_stays, none_told}
use Rattle.differ.proofs.NamedLaws.{AreListed}
use Rattle.differ.proofs.gathered.differences_in.Goals as goal

pub returns : goal.returns
returns c =
    let p = c.args.first.now in
    let q = c.args.second.now in
    let named : List Call = c.in_ok-named.named.items in
    let rest : List Call = c.in_ok-rest.rest.items in
    let told : Differences = c.add_rest_in.new.told in
    let listed : AreListed p q named rest = record {
      clear_p = c.in_ok-named.ensures.clear_first;
      clear_q = c.in_ok-named.ensures.clear_second;
      first = c.in_ok-named.ensures.first;
      second = c.in_ok-named.ensures.second;
      x86_64 = subst (λ (ns : List Call). AreCovered ns rest x86_64_token) c.deref.ensures.value c.in_ok-rest.ensures.x86_64;
      x86 = subst (λ (ns : List Call). AreCovered ns rest x86_token) c.deref.ensures.value c.in_ok-rest.ensures.x86;
      aarch64 = subst (λ (ns : List Call). AreCovered ns rest aarch64_token) c.deref.ensures.value c.in_ok-rest.ensures.aarch64;
      arm = subst (λ (ns : List Call). AreCovered ns rest arm_token) c.deref.ensures.value c.in_ok-rest.ensures.arm;
      riscv64 = subst (λ (ns : List Call). AreCovered ns rest riscv64_token) c.deref.ensures.value c.in_ok-rest.ensures.riscv64;
      ppc64le = subst (λ (ns : List Call). AreCovered ns rest ppc64le_token) c.deref.ensures.value c.in_ok-rest.ensures.ppc64le;
      loongarch64 = subst (λ (ns : List Call). AreCovered ns rest loongarch64_token) c.deref.ensures.value c.in_ok-rest.ensures.loongarch64;
      s390x = subst (λ (ns : List Call). AreCovered ns rest s390x_token) c.deref.ensures.value c.in_ok-rest.ensures.s390x;
      s390 = subst (λ (ns : List Call). AreCovered ns rest s390_token) c.deref.ensures.value c.in_ok-rest.ensures.s390;
    } in
    let e = c.args.direction in
    let answered : (t n : ℕ) → is_named named t n ≡ true → IsAnswered p q told t n e = λ t n h.
    answered_stays p q _ told t n e c.in_ok-add_rest_in.ensures.extends
    (c.in_ok-add_each_in.ensures.answered t n (ap (λ l. is_named l t n) c.deref-2.ensures.value ∙ h)) in
    let covered : (t n : ℕ) → is_named rest t n ≡ true → IsCovered p q told t n e = λ t n h.
    c.in_ok-add_rest_in.ensures.covered t n (ap (λ l. is_named l t n) c.deref-3.ensures.value ∙ h) in
    record {
      told = c.in_ok-add_rest_in.ensures.told (c.in_ok-add_each_in.ensures.told (none_told p q e _ c.new.ensures.items c.new-2.ensures.items));
      of_first = λ t n h. answered t n (c.in_ok-named.ensures.first t n h);
      of_second = λ t n h. answered t n (c.in_ok-named.ensures.second t n h);
      others = all_covered p q named rest told e listed answered covered;
    }
