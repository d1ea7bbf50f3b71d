use Rattle.std.proofs.Common.{◌≡◌, ◌<◌, inl, inr, length, true, get_or, take, ap, ◌∙◌, subst, sym, arith}
use Rattle.std.proofs.lemmas.List.{take_all, take_more}
use Rattle.std.proofs.lemmas.List.Elements.{All-get_or}
use Rattle.std.specs.List.{list_any}
use Rattle.compare.specs.Complete.{is_on}
use Rattle.compare.specs.Difference.{IsDifference}
use Rattle.compare.proofs.CompleteLaws.{any_push}
use Rattle.compare.proofs.change.changes_of.Goals as goal

pub loop-found-preserved : goal.loop-found-preserved
loop-found-preserved c =
    let list = c.args.list.now in
    let i = c.loop-found.found-index in
    let found = c.found-item.result in
    let lt : i < length list = omega (arith, c.loop-found-test.true) in
    record {
      told = λ t n d on. elim (any_push (is_on t n d) (take i list) (get_or list i found)
          (ap (list_any (is_on t n d)) (sym (take_more list i found lt)) ∙ on)) [
            | inl before ↦ c.in_ok-add_change.ensures.kept t n d (c.loop-found.invariant.told t n d before)
            | inr here ↦ c.in_ok-add_change.ensures.told t n d (ap (is_on t n d) c.found-item.is ∙ here)
          ];
      are = λ family p q all.
          c.in_ok-add_change.ensures.are family p q all
          (subst (IsDifference family p q) (sym c.found-item.is) (All-get_or (IsDifference family p q) list i found lt all))
          (c.loop-found.invariant.are family p q all);
    }

pub returns-clause-told : goal.returns-clause-told
returns-clause-told c = λ t n d on.
    c.loop-found.invariant.told t n d (ap (list_any (is_on t n d)) (take_all c.loop-found.found-index c.args.list.now (omega arith)) ∙ on)
