use Rattle.std.proofs.Common.{List, refl, subst, sym}
use Rattle.std.proofs.lemmas.List.Elements.{All-push}
use Rattle.std.specs.List.{All}
use Rattle.call_record.specs.Record.{words}
use Rattle.maker.specs.declared.evidence.evidence.Counterexample.{Counterexample}
use Rattle.compare.specs.Behind.{IsNotAnswered}
use Rattle.compare.specs.Counterexamples.{AllRefute, Refutes}
use Rattle.compare.proofs.BehindLaws.{not_told}
use Rattle.compare.proofs.behind_runc.all.add.Goals as goal

pub returns-clause-left : goal.returns-clause-left
returns-clause-left c = λ none.
    let answered = c.args.answered.now in
    let found = c.args.found.now in
    subst (λ (list : List Counterexample). All (IsNotAnswered answered) list) (sym c.in_ok-push.ensures.items)
    (All-push (IsNotAnswered answered) c.args.left.now.items found none
    (not_told answered answered (words found.call) c.is_answered.result c.is_answered.ensures refl c.if-is_answered.false))

pub returns-clause-refute : goal.returns-clause-refute
returns-clause-refute c = λ native bundle filter refutes all.
    subst (λ (list : List Counterexample). AllRefute native bundle filter list) (sym c.in_ok-push.ensures.items)
    (All-push (Refutes native bundle filter) c.args.left.now.items c.args.found.now all refutes)
