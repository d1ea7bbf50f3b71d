use Rattle.std.proofs.Common.{◌≡◌, ◌+◌, ◌-◌, ◌*◌, ◌^◌, ◌<◌, ℕ, List, get_or, set, length, refl, sym, ◌∙◌, ap, arith, subst}
use Rattle.differ.specs.Left.{AreNeverUnlike, AreUnlikeAt, IsRaised}
use Rattle.differ.specs.declared.left.Side.{Side}
use Rattle.differ.proofs.BranchLaws.{ok_weaker}
use Rattle.differ.proofs.StepLaws.{IsLeft, left_by, never_next, never_passed, raised_none, raised_set, unlike_next}
use Rattle.differ.proofs.WalkLaws.{none_weaker, not_some}
use Rattle.differ.proofs.walk.+unlike_at.Goals as goal

pub returns-then-is_passed-clause-none : goal.returns-then-is_passed-clause-none
returns-then-is_passed-clause-none t c =
    ok_weaker c.unlike_at.result _ _ (λ found some. none_weaker found _ _ (λ never.
    never_passed c.args.direction c.args.bits c.args.index c.args.rest c.args.one c.args.other (omega arith)
    (c.is_passed.ensures.one c.if-is_passed.true) (c.is_passed.ensures.other c.if-is_passed.true) never) some) c.unlike_at.ensures.none

pub overflow_sub-place : goal.overflow_sub-place
overflow_sub-place t c = let some : 0 < c.args.rest = c.is_passed.ensures.some c.if-is_passed.false in omega arith

pub unlike_at-requires-2 : goal.unlike_at-requires-2
unlike_at-requires-2 t c =
    let some : 0 < c.args.rest = c.is_passed.ensures.some c.if-is_passed.false in
    (omega arith, (omega arith, (omega arith, omega arith)))

pub unlike_at-requires-3 : goal.unlike_at-requires-3
unlike_at-requires-3 t c =
    let some : 0 < c.args.rest = c.is_passed.ensures.some c.if-is_passed.false in
    (omega arith, (omega arith, (omega arith, omega arith)))

pub returns-in-Some-clause-found : goal.returns-in-Some-clause-found
returns-in-Some-clause-found t c =
    let some : 0 < c.args.rest = c.is_passed.ensures.some c.if-is_passed.false in
    let place = c.args.rest - 1 in
    let these : Side = c.in_ok-these.these in
    let those : Side = c.in_ok-those.those in
    let one : IsLeft c.args.index place 0 c.args.one these =
    left_by c.args.index place 0 c.args.one these c.deref.result.now c.deref.ensures.value c.in_ok-these.ensures in
    let other : IsLeft c.args.index place 0 c.args.other those =
    left_by c.args.index place 0 c.args.other those c.deref-2.result.now c.deref-2.ensures.value c.in_ok-those.ensures in
    let found : AreUnlikeAt c.args.direction c.args.bits c.args.index place these those (λ i. get_or c.in-Some.found i 0) =
    rw c.in-Some.is at c.in_ok-found.ensures.found in
    unlike_next c.args.direction c.args.bits c.args.index c.args.rest place 0 c.args.one c.args.other these those
    (λ i. get_or c.in-Some.found i 0) (λ i. get_or c.in-Some.found i 0) (omega arith) (omega arith) (omega arith) one other
    (raised_none c.args.index place (λ i. get_or c.in-Some.found i 0) found.within.here) found

pub returns-in-Some-2-clause-found : goal.returns-in-Some-2-clause-found
returns-in-Some-2-clause-found t c =
    let some : 0 < c.args.rest = c.is_passed.ensures.some c.if-is_passed.false in
    let place = c.args.rest - 1 in
    let these : Side = c.in_ok-these-2.these in
    let those : Side = c.in_ok-those-2.those in
    let one : IsLeft c.args.index place 1 c.args.one these =
    left_by c.args.index place 1 c.args.one these c.deref-3.result.now c.deref-3.ensures.value c.in_ok-these-2.ensures in
    let other : IsLeft c.args.index place 1 c.args.other those =
    left_by c.args.index place 1 c.args.other those c.deref-4.result.now c.deref-4.ensures.value c.in_ok-those-2.ensures in
    let args : List ℕ = c.in-Some-2.found in
    let found : AreUnlikeAt c.args.direction c.args.bits c.args.index place these those (λ i. get_or args i 0) =
    rw c.in-Some-2.is at c.in_ok-found-2.ensures.found in
    let raised : IsRaised c.args.index place 1 (λ i. get_or args i 0) (λ i. get_or c.with_bit.result i 0) =
    subst (λ (xs : List ℕ). IsRaised c.args.index place 1 (λ i. get_or args i 0) (λ i. get_or xs i 0)) (sym c.with_bit.ensures.is)
    (raised_set args c.args.index place c.with_bit.ensures.within found.within.here) in
    unlike_next c.args.direction c.args.bits c.args.index c.args.rest place 1 c.args.one c.args.other these those
    (λ i. get_or args i 0) (λ i. get_or c.with_bit.result i 0) (omega arith) (omega arith) (omega arith) one other raised found

pub invariant_of-known : goal.invariant_of-known
invariant_of-known t c =
    let some : 0 < c.args.rest = c.is_passed.ensures.some c.if-is_passed.false in
    let place = c.args.rest - 1 in
    let these : Side = c.in_ok-these.these in
    let those : Side = c.in_ok-those.those in
    let upper : Side = c.in_ok-these-2.these in
    let others : Side = c.in_ok-those-2.those in
    record {
      are_alike = never_next c.args.direction c.args.bits c.args.index c.args.rest place c.args.one c.args.other these those upper others (omega arith) (omega arith)
          (left_by c.args.index place 0 c.args.one these c.deref.result.now c.deref.ensures.value c.in_ok-these.ensures)
          (left_by c.args.index place 0 c.args.other those c.deref-2.result.now c.deref-2.ensures.value c.in_ok-those.ensures)
          (not_some c.in_ok-found.field-0 _ c.in_default.not-Some c.in_ok-found.ensures.none)
          (left_by c.args.index place 1 c.args.one upper c.deref-3.result.now c.deref-3.ensures.value c.in_ok-these-2.ensures)
          (left_by c.args.index place 1 c.args.other others c.deref-4.result.now c.deref-4.ensures.value c.in_ok-those-2.ensures)
          (not_some c.in_ok-found-2.field-0 _ c.in_default-2.not-Some c.in_ok-found-2.ensures.none);
    }
