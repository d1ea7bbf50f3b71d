use Rattle.call_tables.specs.Tables.{table_of}
use Rattle.call_tables.specs.Table.{name_in}
use Rattle.call_words.specs.Near as spec
use Rattle.call_words.proofs.nearest.least_of_all.Given as goal

abbrev pub invariant-loop-number : goal.invariant-loop-number
invariant-loop-number l = spec.IsLeast (name_in (table_of l.native)) l.number l.word l.least
