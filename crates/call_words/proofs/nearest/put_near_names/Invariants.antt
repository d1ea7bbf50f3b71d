use Rattle.std.proofs.Common.{◌≡◌, ◌++◌, string_bytes}
use Rattle.call_tables.specs.Tables.{table_of}
use Rattle.call_tables.specs.Table.{name_in}
use Rattle.call_words.specs.Near as spec
use Rattle.call_words.proofs.nearest.put_near_names.Given as goal

abbrev pub invariant-loop-number : goal.invariant-loop-number
invariant-loop-number l =
    string_bytes l.text ≡ string_bytes l.fn.text ++ spec.near_names (name_in (table_of l.native)) l.number l.word l.edits
