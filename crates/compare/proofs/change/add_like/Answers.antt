use Rattle.std.proofs.Common.{List, subst, sym}
use Rattle.std.proofs.lemmas.List.Elements.{All-push}
use Rattle.std.specs.List.{All}
use Rattle.compare.specs.Difference.{IsDifference, IsLike}
use Rattle.compare.specs.declared.difference.Difference.{Difference}
use Rattle.compare.proofs.change.add_like.Goals as goal

pub returns-in_ok-push : goal.returns-in_ok-push
returns-in_ok-push c = λ family p q all is.
    let Told : Difference → Type 0 = λ d. IsDifference family p q d × IsLike c.args.first.now d in
    subst (λ (list : List Difference). All Told list) (sym c.in_ok-push.ensures.items)
    (All-push Told c.args.like.now.items c.args.other.now all (is, c.is_like.ensures c.if-is_like.true))
