use Rattle.std.proofs.Common.{List, subst, sym}
use Rattle.std.proofs.lemmas.List.Elements.{All-push}
use Rattle.std.specs.Prelude.{IfSome, Option}
use Rattle.std.specs.List.{All}
use Rattle.compare.specs.declared.difference.Difference.{Difference}
use Rattle.compare.specs.Differ.{AnswerUnlike}
use Rattle.compare.proofs.filters.search.add.Goals as goal

pub returns : goal.returns
returns c = λ f old new is all.
    let told : AnswerUnlike f old new c.in-Some.found =
    subst (λ (found : Option Difference). IfSome found (AnswerUnlike f old new)) c.in-Some.is is in
    subst (λ (list : List Difference). All (AnswerUnlike f old new) list) (sym c.in_ok-push.ensures.items)
    (All-push (AnswerUnlike f old new) c.args.all.now.items c.in-Some.found all told)
