use Rattle.std.proofs.Common.{◌++◌, sym, ◌∙◌, ap}
use Rattle.call_tables.specs.Table.{name_in}
use Rattle.call_tables.specs.Rows.{column_of}
use Rattle.call_tables.specs.Tables.{second_rows, third_rows, fourth_rows}
use Rattle.call_tables.proofs.ColumnLaws.{name_first, name_second}
use Rattle.call_tables.proofs.linux.name_from_second.Goals as goal

pub returns-then-is_some : goal.returns-then-is_some
returns-then-is_some c =
    let told = c.name_of-found.ensures ∙ ap (λ t. name_in (column_of c.args.column t) c.args.number) c.second.ensures.rows in
    name_first c.args.column second_rows (third_rows ++ fourth_rows) c.args.number _ told (sym c.is_some.ensures ∙ c.if-is_some.true)

pub returns : goal.returns
returns c =
    let told = c.name_of-found.ensures ∙ ap (λ t. name_in (column_of c.args.column t) c.args.number) c.second.ensures.rows in
    name_second c.args.column second_rows (third_rows ++ fourth_rows) c.args.number _ _ told (sym c.is_some.ensures ∙ c.if-is_some.false) c.name_from_third.ensures
