use Rattle.std.proofs.Common.{◌<◌, ◌&&◌, List, Bool, length, take, ap, sym, ◌∙◌, arith}
use Rattle.std.specs.List.{list_all}
use Rattle.std.proofs.lemmas.List.Folds.{list_all_more}
use Rattle.profile.specs.declared.conditions.Cond.{Cond}
use Rattle.profile.specs.Said.{meets}
use Rattle.differ.specs.Left.{are_met, holds_of}
use Rattle.differ.specs.declared.left.Part.{Part}
use Rattle.differ.proofs.LeftLaws.{met_push}
use Rattle.widths.proofs.unread_bits.sides.parts_of.Goals as goal

pub loop-cond-preserved : goal.loop-cond-preserved
loop-cond-preserved c = λ a b read.
    let conds : List Cond = c.args.conds.now in
    let i = c.loop-cond.cond-index in
    let lt : i < length conds = omega arith in
    let cond : Cond = c.cond-item.result in
    let parts : List Part = c.loop-cond.parts.items in
    let test : Cond → Bool = λ x. meets x (b x.index) in
    ap (λ ps. are_met ps a) c.in_ok-push.ensures.items
    ∙ met_push parts c.part_of.result a
    ∙ ap (λ m. m && holds_of a c.part_of.result) (c.loop-cond.invariant a b read)
    ∙ ap (λ m. list_all test (take i conds) && m) (c.part_of.ensures a b read)
    ∙ ap (λ x. list_all test (take i conds) && test x) c.cond-item.is
    ∙ sym (list_all_more test conds i cond lt)
