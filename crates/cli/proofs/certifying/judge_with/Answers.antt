use Rattle.std.specs.Prelude.{false, true}
use Rattle.cli.proofs.CertifyLaws.{explained_plain, explained_words, with_words}
use Rattle.cli.proofs.certifying.judge_with.Goals as goal

pub returns-then-asked-4-clause-written : goal.returns-then-asked-4-clause-written
returns-then-asked-4-clause-written g c =
    with_words g.O.Sink.held g.O.Sink.failures c.args.out.now c.judge-then-asked-4.new.out c.args.document.now.native c.args.document.now.bytes
    c.args.filter.now c.args.asked.runc c.args.asked.all false true c.if-asked-3.false c.if-asked-4.true c.judge-then-asked-4.result
    c.judge-then-asked-4.ensures.written

pub returns-clause-written : goal.returns-clause-written
returns-clause-written g c =
    with_words g.O.Sink.held g.O.Sink.failures c.args.out.now c.certify.new.out c.args.document.now.native c.args.document.now.bytes
    c.args.filter.now c.args.asked.runc c.args.asked.all false false c.if-asked-3.false c.if-asked-4.false c.certify.result
    c.certify.ensures.found

pub returns-clause-explained : goal.returns-clause-explained
returns-clause-explained g c =
    explained_words g.O.Sink.held g.O.Sink.failures c.args.out.now c.certify.new.out c.args.document.now.native c.args.document.now.bytes
    c.args.filter.now g.E.Sink.held g.E.Sink.failures c.args.err.now c.certify.new.err c.args.asked.runc c.args.asked.all false false
    c.if-asked-3.false c.if-asked-4.false c.certify.result
    (explained_plain g.O.Sink.held g.O.Sink.failures c.args.out.now c.certify.new.out c.args.document.now.native c.args.document.now.bytes
    c.args.filter.now g.E.Sink.held g.E.Sink.failures c.args.err.now c.certify.new.err c.certify.result c.certify.ensures.told)
