use Rattle.std.proofs.Common.{◌≡◌, ◌<◌, ◌∷◌, [], List, length, get_or, take, ap, subst, sym, ◌∙◌, arith}
use Rattle.std.specs.Prelude.{if◌then◌else◌}
use Rattle.differ.specs.Left.{are_met, side_says, verdict}
use Rattle.differ.specs.declared.left.Part.{Part}
use Rattle.differ.specs.declared.left.Rest.{Rest}
use Rattle.differ.proofs.LeftLaws.{verdict_next}
use Rattle.together.specs.Word.{word_of}
use Rattle.together.proofs.ProductLaws.{group_more}
use Rattle.together.proofs.product.times.Goals as goal

pub loop-rest-preserved : goal.loop-rest-preserved
loop-rest-preserved c = λ a.
    let rules : List Rest = c.args.other.now.rules.items in
    let i = c.loop-rest.rest-index in
    let lt : i < length rules = omega arith in
    let rest : Rest = c.rest-item.result in
    let is : rest ≡ get_or rules i rest = subst (λ (rs : List Rest). rest ≡ get_or rs i rest) c.deref-rest-items.ensures.value c.rest-item.is in
    let one = side_says c.args.one.now a in
    let before = side_says c.loop-rest.made a in
    c.in_ok-add_under-2.ensures a
    ∙ ap (λ (ps : List Part). if are_met ps a then word_of c.args.way (one ∷ rest.word ∷ []) else before) c.deref.ensures.value
    ∙ group_more c.args.way (are_met rest.parts.items a) one (verdict c.args.other.now.last (take i rules) a) rest.word before (c.loop-rest.invariant a)
    ∙ ap (λ v. word_of c.args.way (one ∷ v ∷ [])) (sym (verdict_next c.args.other.now.last rules i rest a lt is))
