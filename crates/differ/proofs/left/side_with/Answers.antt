use Rattle.std.proofs.Common.{◌≡◌, ◌<◌, List, length, ap, sym, ◌∙◌, arith}
use Rattle.std.specs.Prelude.{if◌then◌else◌}
use Rattle.std.proofs.lemmas.List.{take_all}
use Rattle.differ.specs.Left.{are_met, verdict}
use Rattle.differ.specs.declared.left.Rest.{Rest}
use Rattle.differ.proofs.LeftLaws.{verdict_next}
use Rattle.differ.proofs.left.side_with.Goals as goal

pub loop-rest-preserved : goal.loop-rest-preserved
loop-rest-preserved c = λ a b r.
    let rules : List Rest = c.args.rules.now in
    let i = c.loop-rest.rest-index in
    let lt : i < length rules = omega arith in
    let rest : Rest = c.rest-item.result in
    c.in_ok-add_rest_with.ensures a b r
    ∙ ap (λ v. if are_met rest.parts.items b then rest.word else v) (c.loop-rest.invariant a b r)
    ∙ sym (verdict_next c.args.last rules i rest b lt c.rest-item.is)

pub returns : goal.returns
returns c = λ a b r.
    c.loop-rest.invariant a b r ∙ ap (λ rs. verdict c.args.last rs b) (take_all c.loop-rest.rest-index c.args.rules.now (omega arith))
