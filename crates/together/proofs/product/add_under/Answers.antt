use Rattle.std.proofs.Common.{◌≡◌, ◌<◌, ◌∷◌, ◌++◌, ◌&&◌, [], List, length, get_or, take, ap, subst, sym, ◌∙◌, arith}
use Rattle.std.specs.Prelude.{if◌then◌else◌}
use Rattle.differ.specs.Left.{are_met, side_says, verdict}
use Rattle.differ.specs.declared.left.Part.{Part}
use Rattle.differ.specs.declared.left.Rest.{Rest}
use Rattle.differ.proofs.LeftLaws.{verdict_next}
use Rattle.together.specs.Word.{word_of}
use Rattle.together.proofs.ProductLaws.{met_both, under_more}
use Rattle.together.proofs.product.add_under.Goals as goal

pub loop-rest-preserved : goal.loop-rest-preserved
loop-rest-preserved c = λ a.
    let rules : List Rest = c.args.one.now.rules.items in
    let i = c.loop-rest.rest-index in
    let lt : i < length rules = omega arith in
    let rest : Rest = c.rest-item.result in
    let is : rest ≡ get_or rules i rest = subst (λ (rs : List Rest). rest ≡ get_or rs i rest) c.deref-rest-items.ensures.value c.rest-item.is in
    let before = side_says c.loop-rest.made a in
    let under = are_met c.args.parts.now a in
    let start = side_says c.add_rest.new.side a in
    c.in_ok-add_rest-2.ensures a
    ∙ ap (λ (ps : List Part). if are_met ps a then c.in_ok-word.word else before) (c.in_ok-parts.ensures ∙ ap (λ ps. c.args.parts.now ++ ps) c.deref.ensures.value)
    ∙ ap (λ m. if m then c.in_ok-word.word else before) (met_both c.args.parts.now rest.parts.items a)
    ∙ ap (λ w. if under && are_met rest.parts.items a then w else before) c.in_ok-word.ensures
    ∙ under_more c.args.way under (are_met rest.parts.items a) (verdict c.args.one.now.last (take i rules) a) rest.word c.args.word before start
    (c.loop-rest.invariant a)
    ∙ ap (λ v. if under then word_of c.args.way (v ∷ c.args.word ∷ []) else start)
    (sym (verdict_next c.args.one.now.last rules i rest a lt is))
