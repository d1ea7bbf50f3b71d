use Rattle.std.proofs.Common.{List, subst, sym}
use Rattle.std.proofs.lemmas.List.Elements.{All-cons}
use Rattle.maker.specs.declared.evidence.evidence.Counterexample.{Counterexample}
use Rattle.std.specs.List.{All}
use Rattle.compare.specs.declared.behind_runc.stub.calls.Calls.{Calls}
use Rattle.compare.specs.Behind.{IsNotAnswered}
use Rattle.compare.specs.Counterexamples.{AllRefute, Refutes}
use Rattle.compare.proofs.behind_runc.all.of_found.Goals as goal

pub returns : goal.returns
returns c =
    let native = c.args.document.now.native in
    let bundle = c.args.document.now.bytes in
    let filter = c.args.filter.now in
    record {
      are = record {
        further = c.in_ok-left.left.items;
        first = c.in_ok-put_first.ensures;
        refute = subst (λ (all : List Counterexample). AllRefute native bundle filter all) (sym c.in_ok-put_first.ensures)
            (All-cons (Refutes native bundle filter) c.args.found.now c.in_ok-left.left.items c.requires
            (c.in_ok-left.ensures.refute native bundle filter
            (subst (λ (all : List Counterexample). AllRefute native bundle filter all) (sym c.deref-2.ensures.value) c.in_ok-all.ensures.refute)));
      };
      passed = λ _. subst (λ (answered : List Calls). All (IsNotAnswered answered) c.in_ok-left.left.items) c.deref.ensures.value
          c.in_ok-left.ensures.left;
    }
