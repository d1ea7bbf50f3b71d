use Rattle.std.proofs.Common.{◌∙◌}
use Rattle.command_line.proofs.Words.{split_is}
use Rattle.command_line.proofs.reading.line_of.Goals as goal

pub returns-in-len1-up : goal.returns-in-len1-up
returns-in-len1-up c = c.line_called.ensures ∙ split_is c.args.arguments.now _ c.in-len1-up.len_at_least
