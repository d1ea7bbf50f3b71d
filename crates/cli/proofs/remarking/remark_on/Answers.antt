use Rattle.command_line.specs.Lines.{texts}
use Rattle.cli.specs.Parts.{parts_of, read}
use Rattle.cli.specs.Remarked.{bundle_names}
use Rattle.cli.proofs.RemarkLaws.{no_remarks, remarks_of_line}
use Rattle.cli.proofs.remarking.remark_on.Goals as goal

pub returns-in_default : goal.returns-in_default
returns-in_default g c = λ command is.
    no_remarks g.E.Sink.held g.E.Sink.failures (parts_of command.1).native (bundle_names command.0 (parts_of command.1)) c.args.err.now

pub returns-in-Chosen : goal.returns-in-Chosen
returns-in-Chosen g c = λ command is.
    no_remarks g.E.Sink.held g.E.Sink.failures (parts_of command.1).native (bundle_names command.0 (parts_of command.1)) c.args.err.now

pub returns-in-Whole : goal.returns-in-Whole
returns-in-Whole g c = λ command is.
    remarks_of_line g.E.Sink.held g.E.Sink.failures c.in-Ok.line (read c.parts_of-parts.result) (texts c.bundle_names-names.result.now)
    command c.args.err.now c.remark_each.new.err c.parts_of-parts.ensures (c.in-Ok.ensures.command command is)
    c.bundle_names-names.ensures c.remark_each.ensures
