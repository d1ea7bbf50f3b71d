use Rattle.std.proofs.Common.{sym, ◌∙◌, ap}
use Rattle.call_tables.specs.Table.{number_in}
use Rattle.call_tables.specs.Rows.{column_of}
use Rattle.call_tables.specs.Tables.{third_rows, fourth_rows}
use Rattle.call_tables.proofs.ColumnLaws.{number_first, number_second}
use Rattle.call_tables.proofs.linux.number_from_third.Goals as goal

pub returns-then-is_some : goal.returns-then-is_some
returns-then-is_some c =
    let told = c.number_of-found.ensures ∙ ap (λ t. number_in (column_of c.args.column t) c.args.name.now) c.third.ensures.rows in
    number_first c.args.column third_rows fourth_rows c.args.name.now _ told (sym c.is_some.ensures ∙ c.if-is_some.true)

pub returns : goal.returns
returns c =
    let told = c.number_of-found.ensures ∙ ap (λ t. number_in (column_of c.args.column t) c.args.name.now) c.third.ensures.rows in
    number_second c.args.column third_rows fourth_rows c.args.name.now _ _ told (sym c.is_some.ensures ∙ c.if-is_some.false) (c.number_of.ensures ∙ ap (λ t. number_in (column_of c.args.column t) c.args.name.now) c.fourth.ensures.rows)
