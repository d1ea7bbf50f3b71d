use Rattle.std.proofs.Common.{◌≡◌, Bool, List, IsTrue, ◌↔◌, sym, ◌∙◌, subst, rules}
use Rattle.profile.specs.declared.conditions.Cond.{Cond}
use Rattle.profile.specs.inner.Meeting.{AllHaveCommon}
use Rattle.profile.proofs.overlaps.can_overlap.Goals as goal

-- what is known of slices, said of the conditions that they are
of_lists : (n narrow : Bool) (xs ys zs ws : List Cond) (r : Bool) → n ≡ narrow → xs ≡ zs → ys ≡ ws → IsTrue r ↔ AllHaveCommon n xs ys
    → IsTrue r ↔ AllHaveCommon narrow zs ws
of_lists n narrow xs ys zs ws r width first second way =
    subst (λ (cs : List Cond). IsTrue r ↔ AllHaveCommon narrow zs cs) second
    (subst (λ (cs : List Cond). IsTrue r ↔ AllHaveCommon narrow cs ys) first
    (subst (λ (b : Bool). IsTrue r ↔ AllHaveCommon b xs ys) width way))

pub returns-then-not-all_meet : goal.returns-then-not-all_meet
returns-then-not-all_meet c =
    let way = of_lists _ _ _ _ _ _ c.all_meet.result c.is_narrow-narrow.ensures c.as_slice-first.ensures.value c.as_slice-second.ensures.value c.all_meet.ensures in
    (λ f. cc, λ o. sym c.if-not-all_meet.true ∙ way.1 o.both)

pub returns-then-not-all_meet-2 : goal.returns-then-not-all_meet-2
returns-then-not-all_meet-2 c =
    let way = of_lists _ _ _ _ _ _ c.all_meet-2.result c.is_narrow-narrow.ensures c.as_slice-first.ensures.value c.as_slice-first.ensures.value c.all_meet-2.ensures in
    (λ f. cc, λ o. sym c.if-not-all_meet-2.true ∙ way.1 o.left)

pub returns : goal.returns
returns c =
    let first = c.as_slice-first.ensures.value in
    let second = c.as_slice-second.ensures.value in
    let both = of_lists _ _ _ _ _ _ c.all_meet.result c.is_narrow-narrow.ensures first second c.all_meet.ensures in
    let left = of_lists _ _ _ _ _ _ c.all_meet-2.result c.is_narrow-narrow.ensures first first c.all_meet-2.ensures in
    let right = of_lists _ _ _ _ _ _ c.all_meet-3.result c.is_narrow-narrow.ensures second second c.all_meet-3.ensures in (
      λ t. record {
        machine = search rules;
        number = search rules;
        left = left.0 c.if-not-all_meet-2.false;
        right = right.0 t;
        both = both.0 c.if-not-all_meet.false;
      },
      λ o. right.1 o.right,
    )
