use Rattle.std.specs.Prelude.{Ok}
use Rattle.cli.proofs.ExplainedLaws.{quiet_of, told_of}
use Rattle.cli.proofs.comparing.certify.Goals as goal

pub returns-in-Err-clause-found : goal.returns-in-Err-clause-found
returns-in-Err-clause-found g c =
    c.in-Err.ensures.found c.args.document.now.native c.args.document.now.bytes c.args.filter.now c.judge_bundle-judged.ensures.found

pub returns-clause-found : goal.returns-clause-found
returns-clause-found g c =
    c.in-Ok.ensures.found c.args.document.now.native c.args.document.now.bytes c.args.filter.now c.judge_bundle-judged.ensures.found

pub returns-clause-quiet : goal.returns-clause-quiet
returns-clause-quiet g c =
    quiet_of g.O.Sink.held g.O.Sink.failures c.args.out.now c.write_judged.new.sink g.E.Sink.held g.E.Sink.failures c.args.err.now
    c.tell_found.new.err c.args.document.now.native c.args.document.now.bytes (Ok c.in-Ok.done) c.judge_bundle-judged.result c.in-Ok.ensures.told
    c.tell_found.ensures.quiet

pub returns-clause-told : goal.returns-clause-told
returns-clause-told g c =
    told_of g.O.Sink.held g.O.Sink.failures c.args.out.now c.write_judged.new.sink g.E.Sink.held g.E.Sink.failures c.args.err.now
    c.tell_found.new.err c.args.document.now.native c.args.document.now.bytes (Ok c.in-Ok.done) c.judge_bundle-judged.result c.in-Ok.ensures.told
    c.tell_found.ensures.why c.tell_found.ensures.quiet
