-- What is told, and what is to be told of the entries that are left, is all.
use Rattle.std.proofs.Common.{◌≡◌, ◌++◌, drop, map}
use Rattle.json.specs.Value.{value_view}
use Rattle.section.specs.Unlike.{entries_lines}
use Rattle.section.proofs.unlike.put_entries.Given as goal

abbrev pub invariant-loop-entry : goal.invariant-loop-entry
invariant-loop-entry l =
    l.lines.items ++ entries_lines l.alone l.top l.entry (map value_view (drop l.entry l.values))
    ≡ l.fn.lines.items ++ entries_lines l.alone l.top 0 (map value_view l.values)
