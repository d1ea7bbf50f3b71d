use Rattle.aside.proofs.ToldLaws.{all_told, judged_told}
use Rattle.aside.proofs.written.write_found.Goals as goal

pub returns-then-is_empty : goal.returns-then-is_empty
returns-then-is_empty g c = λ bundle filter rest answered leave behind judged all.
    judged_told g.S.Sink.held g.S.Sink.failures c.args.sink.now c.write_but.new.sink c.args.native c.write_but.result bundle filter rest
    answered leave behind c.args.but.now.aside.items c.args.but.now.judged.whole c.args.but.now.judged.evidence judged
    c.write_but.ensures.all c.write_but.ensures.but

pub returns : goal.returns
returns g c = λ bundle filter rest answered leave behind judged all.
    all_told g.S.Sink.held g.S.Sink.failures c.args.sink.now c.write_counterexamples.new.sink c.args.native c.write_counterexamples.result bundle
    filter rest answered leave behind c.args.but.now.aside.items c.args.but.now.judged.whole c.args.but.now.judged.evidence judged
    c.args.all.now c.is_empty.result c.is_empty.ensures c.if-is_empty.false all c.write_counterexamples.ensures
