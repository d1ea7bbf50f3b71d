use Rattle.std.proofs.Common.{List, ap, subst, sym, ◌∙◌}
use Rattle.std.specs.Prelude.{Err, Ok, false, true}
use Rattle.maker.specs.declared.evidence.evidence.Counterexample.{Counterexample}
use Rattle.compare.specs.Counterexamples.{AreFound}
use Rattle.cli.proofs.FoundLaws.{tells_found}
use Rattle.cli.proofs.all.write_each.Goals as goal

pub returns-in-Err-write_counterexamples-clause-told : goal.returns-in-Err-write_counterexamples-clause-told
returns-in-Err-write_counterexamples-clause-told g c =
    let all = subst (λ (all : List Counterexample). AreFound c.args.document.now.native c.args.document.now.bytes c.args.filter.now c.args.found.now all)
    (sym c.deref.ensures.value) c.in-Ok.ensures in
    tells_found g.O.Sink.held g.O.Sink.failures c.args.out.now c.write_counterexamples.new.sink c.args.document.now.native c.args.document.now.bytes
    c.args.filter.now c.args.found.now c.deref.result.now all c.write_counterexamples.result (Err c.in-Err-write_counterexamples.fault)
    c.in-Err-write_counterexamples.is c.write_counterexamples.ensures

pub returns-in-Ok-true-clause-told : goal.returns-in-Ok-true-clause-told
returns-in-Ok-true-clause-told g c =
    let all = subst (λ (all : List Counterexample). AreFound c.args.document.now.native c.args.document.now.bytes c.args.filter.now c.args.found.now all)
    (sym c.deref.ensures.value) c.in-Ok.ensures in
    tells_found g.O.Sink.held g.O.Sink.failures c.args.out.now c.write_counterexamples.new.sink c.args.document.now.native c.args.document.now.bytes
    c.args.filter.now c.args.found.now c.deref.result.now all c.write_counterexamples.result (Ok true) (c.in-Ok-true.is ∙ ap Ok c.in-Ok-true.field-0-test)
    c.write_counterexamples.ensures

pub returns-clause-told : goal.returns-clause-told
returns-clause-told g c =
    let all = subst (λ (all : List Counterexample). AreFound c.args.document.now.native c.args.document.now.bytes c.args.filter.now c.args.found.now all)
    (sym c.deref.ensures.value) c.in-Ok.ensures in
    tells_found g.O.Sink.held g.O.Sink.failures c.args.out.now c.write_counterexamples.new.sink c.args.document.now.native c.args.document.now.bytes
    c.args.filter.now c.args.found.now c.deref.result.now all c.write_counterexamples.result (Ok false) (c.in-Ok-false.is ∙ ap Ok c.in-Ok-false.field-0-test)
    c.write_counterexamples.ensures
