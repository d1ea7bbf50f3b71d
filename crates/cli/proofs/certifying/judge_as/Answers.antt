use Rattle.std.proofs.Common.{sym, ◌∙◌}
use Rattle.cli.specs.Dispatch.{asks_but}
use Rattle.cli.specs.Parts.{read}
use Rattle.cli.proofs.CertifyLaws.{explained_aside}
use Rattle.cli.proofs.certifying.judge_as.Goals as goal

pub returns-then-asks_but-clause-explained : goal.returns-then-asks_but-clause-explained
returns-then-asks_but-clause-explained g c =
    explained_aside g.O.Sink.held g.O.Sink.failures c.args.out.now c.judge.new.out c.args.document.now.native c.args.document.now.bytes
    c.args.filter.now g.E.Sink.held g.E.Sink.failures c.args.err.now c.judge.new.err (asks_but (read c.args.parts.now))
    (sym c.asks_but.ensures ∙ c.if-asks_but.true) (read c.args.parts.now) c.judge.result
