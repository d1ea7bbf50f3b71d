-- What is told, and what is to be told of the members that are left, is all.
use Rattle.std.proofs.Common.{◌≡◌, ◌++◌, drop, map}
use Rattle.json.specs.Value.{value_view}
use Rattle.section.specs.Unlike.{arguments_lines}
use Rattle.section.proofs.unlike.put_arguments.Given as goal

abbrev pub invariant-loop-at : goal.invariant-loop-at
invariant-loop-at l =
    l.lines.items ++ arguments_lines l.top l.entry l.at (map value_view (drop l.at l.values))
    ≡ l.fn.lines.items ++ arguments_lines l.top l.entry 0 (map value_view l.values)
