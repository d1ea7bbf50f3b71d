use Rattle.std.proofs.Common.{◌∙◌, ap, option_map, sym}
use Rattle.command_line.specs.Lines.{given, texts}
use Rattle.command_line.proofs.Words.{called_none, called_refused, called_taken}
use Rattle.command_line.proofs.reading.line_called.Goals as goal

pub returns-in_err-entry : goal.returns-in_err-entry
returns-in_err-entry c =
    ap (option_map given) c.from_residual.ensures
    ∙ sym (called_none c.commands.result.now c.called.result c.args.name.now (texts c.args.parts.now) c.commands.ensures c.called.ensures c.in_err-entry.was)

pub returns-then-takes : goal.returns-then-takes
returns-then-takes c =
    sym (called_taken c.commands.result.now c.called.result c.args.name.now (texts c.args.parts.now) c.commands.ensures c.called.ensures
    c.in_ok-entry.entry c.in_ok-entry.was (sym c.takes.ensures ∙ c.if-takes.true))

pub returns : goal.returns
returns c =
    sym (called_refused c.commands.result.now c.called.result c.args.name.now (texts c.args.parts.now) c.commands.ensures c.called.ensures
    c.in_ok-entry.entry c.in_ok-entry.was (sym c.takes.ensures ∙ c.if-takes.false))
