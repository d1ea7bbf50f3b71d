use Rattle.std.proofs.Common.{◌≡◌, drop}
use Rattle.widths.specs.Rows.{rows, readings_in}
use Rattle.widths.proofs.arguments.rows.find.Given as goal

abbrev pub invariant-loop-row : goal.invariant-loop-row
invariant-loop-row l = readings_in (rows (drop l.row-index l.table)) l.name ≡ readings_in (rows l.table) l.name
