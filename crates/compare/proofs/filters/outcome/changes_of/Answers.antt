use Rattle.std.proofs.Common.{List, refl, subst, sym, arith}
use Rattle.std.proofs.lemmas.List.Elements.{All-get_or, All-push}
use Rattle.std.specs.List.{All}
use Rattle.compare.specs.declared.change.Change.{Change}
use Rattle.compare.specs.Differ.{AnswerUnlike}
use Rattle.compare.specs.FiltersTold.{IsUnlike}
use Rattle.compare.proofs.filters.outcome.changes_of.Goals as goal

pub loop-found-preserved : goal.loop-found-preserved
loop-found-preserved c = λ f old new all.
    let unlike : AnswerUnlike f old new c.found-item.result =
    subst (AnswerUnlike f old new) (sym c.found-item.is)
    (All-get_or (AnswerUnlike f old new) c.args.all.now c.loop-found.found-index c.found-item.result (omega (arith, c.loop-found-test.true)) all) in
    subst (λ (changes : List Change). All (IsUnlike f old new) changes) (sym {A = List Change} c.in_ok-push.ensures.items)
    (All-push (IsUnlike f old new) c.loop-found.changes.items _ (c.loop-found.invariant f old new all) (unlike, c.new.ensures.items))
