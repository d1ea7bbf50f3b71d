use Rattle.std.proofs.Common.{rules, ◌≡◌, ℕ, List, get_or, refl, sym, ◌∙◌, subst, arith}
use Rattle.std.proofs.lemmas.List.{get_or_default}
use Rattle.machines.specs.declared.arch.Arch.{Arch}
use Rattle.machines.specs.declared.arch.Family.{Family}
use Rattle.machines.specs.Arch.{AreOfFamily}
use Rattle.profile.specs.declared.rules.Rule.{Rule}
use Rattle.profile.specs.declared.fault.BuildError.TheVariants.{Overlap}
use Rattle.profile.specs.Policy.{IsClear}
use Rattle.profile.specs.inner.Places.{IsIndexOf}
use Rattle.profile.specs.Build.{AreListed, IsFirstForeign, IsFirstCause}
use Rattle.profile.proofs.Clashing.{first_clash_in}
use Rattle.profile.proofs.BuildLaws.{not_kept, overlapping, profile_of}
use Rattle.profile.proofs.MachineLaws.{all_of, only_of, stays}
use Rattle.profile.proofs.policy.Profile.build.Goals as goal

of_family : (f g : Family) (archs : List Arch) → f ≡ g → AreOfFamily f archs → AreOfFamily g archs
of_family f g archs same h = subst (λ family. AreOfFamily family archs) same h

pub returns-in-Some-clause-err : goal.returns-in-Some-clause-err
returns-in-Some-clause-err c = (
  (c.lists.ensures.0 c.if-not-lists.false, of_family _ _ _ c.family-family.ensures (c.are_of_family.ensures.0 c.if-not-are_of_family.false)),
  subst (λ (rules : List Rule). IsFirstForeign c.args.archs.now rules c.in-Some.place) c.deref.ensures.value c.in-Some.ensures.some,
)

pub index-requires : goal.index-requires
index-requires c =
    let kept = c.in_ok-rules.field-0 in
    let first = first_clash_in c.args.rules.items kept.rules.items _ kept.places.items _ _ c.in_ok-rules.ensures.ok c.deref-2.ensures.value
    c.in-Some-first_clash.ensures.some in
    omega (arith, first.1, kept.places.ok.0)

pub index-requires-in-Some-first_clash : goal.index-requires-in-Some-first_clash
index-requires-in-Some-first_clash c =
    let kept = c.in_ok-rules.field-0 in
    let first = first_clash_in c.args.rules.items kept.rules.items _ kept.places.items _ _ c.in_ok-rules.ensures.ok c.deref-2.ensures.value
    c.in-Some-first_clash.ensures.some in
    omega (arith, first.2, kept.places.ok.0)

pub returns-in-Some-first_clash-clause-err : goal.returns-in-Some-first_clash-clause-err
returns-in-Some-first_clash-clause-err c =
    let rules = c.args.rules.items in
    let archs = c.args.archs.now in
    let kept = c.in_ok-rules.field-0.rules.items in
    let places = c.in_ok-rules.field-0.places.items in
    let i = c.in-Some-first_clash.first in
    let j = c.in-Some-first_clash.second in
    let first = first_clash_in rules kept c.deref-2.result.now places i j c.in_ok-rules.ensures.ok c.deref-2.ensures.value
    c.in-Some-first_clash.ensures.some in
    let listed : AreListed archs rules = subst (AreListed archs) c.deref.ensures.value c.in_default.ensures.none in
    let at-first : get_or places i 0 ≡ c.index.result.now =
    get_or_default places i 0 c.index.result.now first.1 ∙ sym c.index.ensures in
    let at-second : get_or places j 0 ≡ c.index-in-Some-first_clash.result.now =
    get_or_default places j 0 c.index-in-Some-first_clash.result.now first.2 ∙ sym c.index-in-Some-first_clash.ensures in
    let cause = overlapping c.args.native archs rules kept places i j
    (c.lists.ensures.0 c.if-not-lists.false, of_family _ _ _ c.family-family.ensures (c.are_of_family.ensures.0 c.if-not-are_of_family.false)) listed
    c.in_ok-rules.ensures.ok c.in_ok-rules.ensures.few first.0 in
    subst (λ (n : ℕ). IsFirstCause c.args.native archs rules (Overlap c.index.result.now n)) at-second
    (subst (λ (m : ℕ). IsFirstCause c.args.native archs rules (Overlap m (get_or places j 0))) at-first cause)

pub returns-clause-ok : goal.returns-clause-ok
returns-clause-ok c = record {
  is_profile =
      profile_of _ c.args.archs.now c.args.rules.items (c.lists.ensures.0 c.if-not-lists.false)
      (stays c.family-family.result c.args.archs.now _ (c.are_of_family.ensures.0 c.if-not-are_of_family.false) c.in_order.ensures)
      (all_of c.family-family.result c.args.archs.now _ (c.are_of_family.ensures.0 c.if-not-are_of_family.false) c.in_order.ensures)
      (subst (AreListed c.args.archs.now) c.deref.ensures.value c.in_default.ensures.none)
      c.in_ok-rules.ensures.ok.once c.in_ok-rules.ensures.few
      (subst IsClear c.deref-2.ensures.value c.in_default-first_clash.ensures.none);
  native_is = refl;
  machines_listed =
      only_of c.family-family.result c.args.archs.now _ (c.are_of_family.ensures.0 c.if-not-are_of_family.false) c.in_order.ensures;
  machines_all = all_of c.family-family.result c.args.archs.now _ (c.are_of_family.ensures.0 c.if-not-are_of_family.false) c.in_order.ensures;
  default_is = refl;
  rules_kept = c.in_ok-rules.ensures.ok.once;
}

pub returns-in_err-rules-clause-err : goal.returns-in_err-rules-clause-err
returns-in_err-rules-clause-err c =
    let cause = not_kept c.args.native c.args.archs.now c.args.rules.items c.in_err-rules.field-0.0
    (c.lists.ensures.0 c.if-not-lists.false, of_family _ _ _ c.family-family.ensures (c.are_of_family.ensures.0 c.if-not-are_of_family.false))
    (subst (AreListed c.args.archs.now) c.deref.ensures.value c.in_default.ensures.none) c.in_err-rules.ensures.err in
    search (rules, cause)

pub first_clash-requires : goal.first_clash-requires
first_clash-requires c =
    subst (λ (xs : List Rule). IsIndexOf xs c.in_ok-rules.field-0.index) (sym c.deref-2.ensures.value) c.in_ok-rules.ensures.index

pub invariant_of-result : goal.invariant_of-result
invariant_of-result c = (
  profile_of _ c.args.archs.now c.args.rules.items (c.lists.ensures.0 c.if-not-lists.false)
      (stays c.family-family.result c.args.archs.now _ (c.are_of_family.ensures.0 c.if-not-are_of_family.false) c.in_order.ensures)
      (all_of c.family-family.result c.args.archs.now _ (c.are_of_family.ensures.0 c.if-not-are_of_family.false) c.in_order.ensures)
      (subst (AreListed c.args.archs.now) c.deref.ensures.value c.in_default.ensures.none)
      c.in_ok-rules.ensures.ok.once c.in_ok-rules.ensures.few
      (subst IsClear c.deref-2.ensures.value c.in_default-first_clash.ensures.none),
  c.in_ok-rules.ensures.index,
)
