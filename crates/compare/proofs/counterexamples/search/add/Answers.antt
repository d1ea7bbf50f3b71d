use Rattle.std.proofs.Common.{List, subst, sym}
use Rattle.std.proofs.lemmas.List.Elements.{All-push}
use Rattle.std.specs.Prelude.{IfSome, Option}
use Rattle.maker.specs.declared.evidence.evidence.Counterexample.{Counterexample}
use Rattle.compare.specs.Counterexamples.{AllRefute, Refutes}
use Rattle.compare.proofs.counterexamples.search.add.Goals as goal

pub returns : goal.returns
returns c = λ native bundle bytes is all.
    let refutes : Refutes native bundle bytes c.in-Some.found =
    subst (λ (found : Option Counterexample). IfSome found (Refutes native bundle bytes)) c.in-Some.is is in
    subst (λ (list : List Counterexample). AllRefute native bundle bytes list) (sym c.in_ok-push.ensures.items)
    (All-push (Refutes native bundle bytes) c.args.all.now.items c.in-Some.found all refutes)
