use Rattle.std.proofs.Common.{List, ap, ◌∙◌, subst}
use Rattle.machines.specs.Machines.{aarch64_token, arm_token, loongarch64_token, ppc64le_token, riscv64_token, s390_token, s390x_token, x86_64_token, x86_token}
use Rattle.differ.specs.declared.named.Call.{Call}
use Rattle.differ.specs.Named.{AreCovered, is_named}
use Rattle.differ.proofs.BranchLaws.{ok_weaker}
use Rattle.differ.proofs.WalkLaws.{none_weaker, not_some}
use Rattle.together.proofs.CallLaws.{says_together}
use Rattle.together.proofs.judged.judge.Goals as goal

pub returns-clause-none : goal.returns-clause-none
returns-clause-none c =
    let named : List Call = c.in_ok-named.named.items in
    let rest : List Call = c.in_ok-rest.rest.items in
    ok_weaker c.unlike_in.result _ _ (λ found some. none_weaker found _ _ (λ foreign.
    says_together c.args.way c.args.profiles.now c.args.joined.now named rest
    (record {
      each = c.in_ok-named.ensures.each;
      own = c.in_ok-named.ensures.joined;
      x86_64 = subst (λ (ns : List Call). AreCovered ns rest x86_64_token) c.deref.ensures.value c.in_ok-rest.ensures.x86_64;
      x86 = subst (λ (ns : List Call). AreCovered ns rest x86_token) c.deref.ensures.value c.in_ok-rest.ensures.x86;
      aarch64 = subst (λ (ns : List Call). AreCovered ns rest aarch64_token) c.deref.ensures.value c.in_ok-rest.ensures.aarch64;
      arm = subst (λ (ns : List Call). AreCovered ns rest arm_token) c.deref.ensures.value c.in_ok-rest.ensures.arm;
      riscv64 = subst (λ (ns : List Call). AreCovered ns rest riscv64_token) c.deref.ensures.value c.in_ok-rest.ensures.riscv64;
      ppc64le = subst (λ (ns : List Call). AreCovered ns rest ppc64le_token) c.deref.ensures.value c.in_ok-rest.ensures.ppc64le;
      loongarch64 = subst (λ (ns : List Call). AreCovered ns rest loongarch64_token) c.deref.ensures.value c.in_ok-rest.ensures.loongarch64;
      s390x = subst (λ (ns : List Call). AreCovered ns rest s390x_token) c.deref.ensures.value c.in_ok-rest.ensures.s390x;
      s390 = subst (λ (ns : List Call). AreCovered ns rest s390_token) c.deref.ensures.value c.in_ok-rest.ensures.s390;
      agree = λ t n h.
          not_some c.in_ok-found.field-0 _ c.in_default.not-Some
          (c.in_ok-found.ensures.none t n (ap (λ l. is_named l t n) c.deref-2.ensures.value ∙ h));
      agree_rest = λ t n h.
          not_some c.in_ok-found-2.field-0 _ c.in_default-2.not-Some
          (c.in_ok-found-2.ensures.none t n (ap (λ l. is_named l t n) c.deref-3.ensures.value ∙ h));
      agree_foreign = foreign;
    })) some) c.unlike_in.ensures.none
