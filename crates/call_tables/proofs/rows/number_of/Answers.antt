use Rattle.std.proofs.Common.{sym, ◌∙◌, ap}
use Rattle.std.specs.Option.{option_copied}
use Rattle.call_tables.specs.Rows.{rows}
use Rattle.call_tables.specs.inner.OrderLaws.{ascends}
use Rattle.call_tables.proofs.ColumnLaws.{told, untold}
use Rattle.call_tables.proofs.rows.number_of.Goals as goal

pub returns-in-Some : goal.returns-in-Some
returns-in-Some c =
    let is = sym c.row_of.ensures ∙ ap option_copied c.in-Some.is in
    c.number_at.ensures ∙ told c.args.column _ c.args.name.now _ (ascends (rows c.args.table.now) c.requires.sorted) is

pub returns-in-None : goal.returns-in-None
returns-in-None c =
    let is = sym c.row_of.ensures ∙ ap option_copied c.in-None.is in
    untold c.args.column _ c.args.name.now (ascends (rows c.args.table.now) c.requires.sorted) is
