use Rattle.std.proofs.Common.{◌≡◌, ◌<◌, inl, inr, List, length, true, get_or, take, ap, ◌∙◌, subst, sym, arith}
use Rattle.std.proofs.lemmas.List.{take_all, take_more}
use Rattle.std.proofs.lemmas.List.Elements.{All-get_or, All-push}
use Rattle.std.specs.List.{All, list_any}
use Rattle.differ.specs.Differences as differ
use Rattle.differ.specs.OnCall.{IsFound}
use Rattle.differ.specs.declared.direction.Direction.TheVariants.{Any}
use Rattle.differ.specs.declared.found.Found.{Found}
use Rattle.compare.specs.Complete.{is_on}
use Rattle.compare.specs.Difference.{IsDifference}
use Rattle.compare.specs.declared.difference.Difference.{Difference}
use Rattle.compare.proofs.CompleteLaws.{any_last, any_more, any_push, on_difference}
use Rattle.compare.proofs.search.differences_of.Goals as goal

pub difference_of-requires : goal.difference_of-requires
difference_of-requires c =
    let P : Found → Type 0 = λ f. IsFound c.args.first.now c.args.second.now f.call.arch f.call.nr Any f in
    subst P (sym c.found-item.is) (All-get_or P c.args.all.now c.loop-found.found-index c.found-item.result (omega arith) c.requires)

pub loop-found-preserved : goal.loop-found-preserved
loop-found-preserved c =
    let all = c.args.all.now in
    let i = c.loop-found.found-index in
    let list : List Difference = c.loop-found.list.items in
    let made : Difference = c.difference_of.result in
    let lt : i < length all = omega arith in
    let f : Found = c.found-item.result in
    let P : Difference → Type 0 = λ d. IsDifference c.args.family c.args.first.now c.args.second.now d in
    record {
      are = subst (λ (l : List Difference). All P l) (sym c.in_ok-push.ensures.items) (All-push P list made c.loop-found.invariant.are c.difference_of.ensures.is);
      on = λ t n d told.
          subst (λ (l : List Difference). list_any (is_on t n d) l ≡ true) (sym c.in_ok-push.ensures.items)
          (elim (any_push (differ.is_on t n d) (take i all) (get_or all i f) (ap (list_any (differ.is_on t n d)) (sym (take_more all i f lt)) ∙ told)) [
            | inl before ↦ any_more (is_on t n d) list made (c.loop-found.invariant.on t n d before)
            | inr here ↦ any_last (is_on t n d) list made
                (on_difference t n d f made c.difference_of.ensures.token c.difference_of.ensures.nr c.difference_of.ensures.first_is
                c.difference_of.ensures.second_is (ap (differ.is_on t n d) c.found-item.is ∙ here))
          ]);
    }

pub returns-clause-on : goal.returns-clause-on
returns-clause-on c = λ t n d told.
    c.loop-found.invariant.on t n d (ap (list_any (differ.is_on t n d)) (take_all c.loop-found.found-index c.args.all.now (omega arith)) ∙ told)
