use Rattle.std.proofs.Common.{◌≡◌, drop}
use Rattle.call_tables.specs.Table.{name_in}
use Rattle.call_tables.specs.Rows.{rows, column_of}
use Rattle.call_tables.proofs.rows.name_of.Given as goal

abbrev pub invariant-loop-name : goal.invariant-loop-name
invariant-loop-name l = name_in (column_of l.column (rows (drop l.name-index l.table))) l.number ≡ name_in (column_of l.column (rows l.table)) l.number
