use Rattle.std.proofs.Common.{List, subst, sym}
use Rattle.std.proofs.lemmas.List.Elements.{All-cons, All-nil}
use Rattle.maker.specs.declared.evidence.evidence.Counterexample.{Counterexample}
use Rattle.compare.specs.Counterexamples.{AllRefute, Refutes}
use Rattle.compare.proofs.counterexamples.judged.counterexamples_of.Goals as goal

pub returns : goal.returns
returns c =
    let native = c.args.document.now.native in
    let bundle = c.args.document.now.bytes in
    let filter = c.args.filter.now in
    let none : AllRefute native bundle filter c.new-all.result.items =
    subst (λ (all : List Counterexample). AllRefute native bundle filter all) (sym c.new-all.ensures.items) (All-nil (Refutes native bundle filter)) in
    record {
      further = c.add_all.new.all.items;
      first = c.in_ok-put_first.ensures;
      refute = subst (λ (all : List Counterexample). AllRefute native bundle filter all) (sym c.in_ok-put_first.ensures)
          (All-cons (Refutes native bundle filter) c.args.found.now c.add_all.new.all.items c.requires (c.in_ok-add_all.ensures none));
    }
