use Rattle.std.proofs.Common.{◌≡◌, drop}
use Rattle.call_tables.specs.Table.{name_in, entries}
use Rattle.call_words.proofs.constant_names.named.name_in.Given as goal

abbrev pub invariant-loop-entry : goal.invariant-loop-entry
invariant-loop-entry l = name_in (entries (drop l.entry-index l.table)) l.n ≡ name_in (entries l.table) l.n
