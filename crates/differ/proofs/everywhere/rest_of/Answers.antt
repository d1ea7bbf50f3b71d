use Rattle.std.proofs.Common.{◌≡◌, ℕ, List, true, subst}
use Rattle.machines.specs.Machines.{aarch64_token, arm_token, loongarch64_token, ppc64le_token, riscv64_token, s390_token, s390x_token, x86_64_token, x86_token}
use Rattle.differ.specs.declared.named.Call.{Call}
use Rattle.differ.specs.Named.{AreCovered, is_named}
use Rattle.differ.proofs.NamedLaws.{all_covered_stay}
use Rattle.differ.proofs.everywhere.rest_of.Goals as goal

abbrev Stays : List Call → List Call → Type 0
Stays old new = (t n : ℕ) → is_named old t n ≡ true → is_named new t n ≡ true

-- numbers that were covered stay so
kept : (named old new : List Call) (at token : ℕ) → Stays old new → at ≡ token → AreCovered named old at → AreCovered named new token
kept named old new at token stay same covered =
    subst (λ t. AreCovered named new t) same (all_covered_stay named old new at stay covered)

pub returns-clause-x86_64 : goal.returns-clause-x86_64
returns-clause-x86_64 c =
    kept c.args.named.now c.add_rest.new.rest.items c.add_rest-9.new.rest.items c.token.result x86_64_token (λ t n h. c.in_ok-add_rest-9.ensures.stay t n (c.in_ok-add_rest-8.ensures.stay t n (c.in_ok-add_rest-7.ensures.stay t n (c.in_ok-add_rest-6.ensures.stay t n (c.in_ok-add_rest-5.ensures.stay t n (c.in_ok-add_rest-4.ensures.stay t n (c.in_ok-add_rest-3.ensures.stay t n (c.in_ok-add_rest-2.ensures.stay t n h))))))))
    c.token.ensures c.in_ok-add_rest.ensures.covered

pub returns-clause-x86 : goal.returns-clause-x86
returns-clause-x86 c =
    kept c.args.named.now c.add_rest-2.new.rest.items c.add_rest-9.new.rest.items c.token-2.result x86_token (λ t n h. c.in_ok-add_rest-9.ensures.stay t n (c.in_ok-add_rest-8.ensures.stay t n (c.in_ok-add_rest-7.ensures.stay t n (c.in_ok-add_rest-6.ensures.stay t n (c.in_ok-add_rest-5.ensures.stay t n (c.in_ok-add_rest-4.ensures.stay t n (c.in_ok-add_rest-3.ensures.stay t n h)))))))
    c.token-2.ensures c.in_ok-add_rest-2.ensures.covered

pub returns-clause-aarch64 : goal.returns-clause-aarch64
returns-clause-aarch64 c =
    kept c.args.named.now c.add_rest-3.new.rest.items c.add_rest-9.new.rest.items c.token-3.result aarch64_token (λ t n h. c.in_ok-add_rest-9.ensures.stay t n (c.in_ok-add_rest-8.ensures.stay t n (c.in_ok-add_rest-7.ensures.stay t n (c.in_ok-add_rest-6.ensures.stay t n (c.in_ok-add_rest-5.ensures.stay t n (c.in_ok-add_rest-4.ensures.stay t n h))))))
    c.token-3.ensures c.in_ok-add_rest-3.ensures.covered

pub returns-clause-arm : goal.returns-clause-arm
returns-clause-arm c =
    kept c.args.named.now c.add_rest-4.new.rest.items c.add_rest-9.new.rest.items c.token-4.result arm_token (λ t n h. c.in_ok-add_rest-9.ensures.stay t n (c.in_ok-add_rest-8.ensures.stay t n (c.in_ok-add_rest-7.ensures.stay t n (c.in_ok-add_rest-6.ensures.stay t n (c.in_ok-add_rest-5.ensures.stay t n h)))))
    c.token-4.ensures c.in_ok-add_rest-4.ensures.covered

pub returns-clause-riscv64 : goal.returns-clause-riscv64
returns-clause-riscv64 c =
    kept c.args.named.now c.add_rest-5.new.rest.items c.add_rest-9.new.rest.items c.token-5.result riscv64_token (λ t n h. c.in_ok-add_rest-9.ensures.stay t n (c.in_ok-add_rest-8.ensures.stay t n (c.in_ok-add_rest-7.ensures.stay t n (c.in_ok-add_rest-6.ensures.stay t n h))))
    c.token-5.ensures c.in_ok-add_rest-5.ensures.covered

pub returns-clause-ppc64le : goal.returns-clause-ppc64le
returns-clause-ppc64le c =
    kept c.args.named.now c.add_rest-6.new.rest.items c.add_rest-9.new.rest.items c.token-6.result ppc64le_token (λ t n h. c.in_ok-add_rest-9.ensures.stay t n (c.in_ok-add_rest-8.ensures.stay t n (c.in_ok-add_rest-7.ensures.stay t n h)))
    c.token-6.ensures c.in_ok-add_rest-6.ensures.covered

pub returns-clause-loongarch64 : goal.returns-clause-loongarch64
returns-clause-loongarch64 c =
    kept c.args.named.now c.add_rest-7.new.rest.items c.add_rest-9.new.rest.items c.token-7.result loongarch64_token (λ t n h. c.in_ok-add_rest-9.ensures.stay t n (c.in_ok-add_rest-8.ensures.stay t n h))
    c.token-7.ensures c.in_ok-add_rest-7.ensures.covered

pub returns-clause-s390x : goal.returns-clause-s390x
returns-clause-s390x c =
    kept c.args.named.now c.add_rest-8.new.rest.items c.add_rest-9.new.rest.items c.token-8.result s390x_token (λ t n h. c.in_ok-add_rest-9.ensures.stay t n h)
    c.token-8.ensures c.in_ok-add_rest-8.ensures.covered

pub returns-clause-s390 : goal.returns-clause-s390
returns-clause-s390 c =
    kept c.args.named.now c.add_rest-9.new.rest.items c.add_rest-9.new.rest.items c.token-9.result s390_token (λ t n h. h)
    c.token-9.ensures c.in_ok-add_rest-9.ensures.covered
