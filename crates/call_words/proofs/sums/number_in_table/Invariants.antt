use Rattle.std.proofs.Common.{◌≡◌, drop}
use Rattle.call_tables.specs.Table.{number_in, entries}
use Rattle.call_words.proofs.sums.number_in_table.Given as goal

abbrev pub invariant-loop-entry : goal.invariant-loop-entry
invariant-loop-entry l = number_in (entries (drop l.entry-index l.table)) l.name ≡ number_in (entries l.table) l.name
