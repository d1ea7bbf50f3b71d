use Rattle.std.proofs.Common.{◌≡◌, drop}
use Rattle.call_tables.specs.Table.{name_in, entries}
use Rattle.call_tables.proofs.table.find_name.Given as goal

abbrev pub invariant-loop-entry : goal.invariant-loop-entry
invariant-loop-entry l = name_in (entries (drop l.entry-index l.table)) l.number ≡ name_in (entries l.table) l.number
