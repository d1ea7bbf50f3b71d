use Rattle.std.proofs.Common.{◌∙◌, ap, option_map, subst, sym}
use Rattle.command_line.specs.Lines.{IsRowOfOurs}
use Rattle.command_line.specs.Table.{row}
use Rattle.command_line.proofs.Words.{row_is}
use Rattle.command_line.proofs.misused.ours_called.Goals as goal

pub returns-then-is_ours : goal.returns-then-is_ours
returns-then-is_ours c =
    let named = row_is c.commands.result.now c.called.result c.args.name.now c.commands.ensures c.called.ensures in
    subst IsRowOfOurs (sym (named ∙ ap (option_map row) c.in_ok-entry.was)) (sym c.is_ours.ensures ∙ c.if-is_ours.true)
