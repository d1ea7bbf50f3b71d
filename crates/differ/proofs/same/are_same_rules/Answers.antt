use Rattle.std.proofs.Common.{◌≡◌, ◌<◌, List, length, take, refl, ap, sym, ◌∙◌, arith}
use Rattle.std.specs.Prelude.{if◌then◌else◌}
use Rattle.differ.specs.Left.{are_met, verdict}
use Rattle.differ.specs.declared.left.Rest.{Rest}
use Rattle.differ.proofs.LeftLaws.{verdict_next}
use Rattle.differ.proofs.same.are_same_rules.Goals as goal

pub loop-i-preserved : goal.loop-i-preserved
loop-i-preserved c = λ last a.
    let these : List Rest = c.args.these.now in
    let those : List Rest = c.args.those.now in
    let i = c.loop-i.i in
    let one : Rest = c.index-these-i.result in
    let other : Rest = c.index-those-i.result in
    let lt : i < length these = omega arith in
    let lt_other : i < length those = omega arith in
    verdict_next last these i one a lt c.index-these-i.is
    ∙ ap (λ w. if are_met one.parts.items a then w else verdict last (take i these) a) (c.is_same_rest.ensures.word c.if-not-is_same_rest.false)
    ∙ ap (λ ps. if are_met ps a then other.word else verdict last (take i these) a) (c.is_same_rest.ensures.parts c.if-not-is_same_rest.false)
    ∙ ap (λ v. if are_met other.parts.items a then other.word else v) (c.loop-i.invariant last a)
    ∙ sym (verdict_next last those i other a lt_other c.index-those-i.is)
