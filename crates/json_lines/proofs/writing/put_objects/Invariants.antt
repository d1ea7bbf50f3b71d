-- The objects so far, in front of those of the lines that are left.
use Rattle.std.proofs.Common.{◌≡◌, ◌++◌, ◌-◌, drop, length}
use Rattle.json_lines.specs.Kinds.{shapes_of}
use Rattle.json_lines.specs.inner.Tokens.{objects_in}
use Rattle.json_lines.specs.inner.Views.{texts}
use Rattle.json_lines.proofs.writing.put_objects.Given as goal

abbrev pub invariant-group : goal.invariant-group
invariant-group l =
    l.told.items ++ objects_in (shapes_of (l.kinds.0.now, l.kinds.1.now)) (texts (drop l.at l.lines))
    ≡ l.fn.told.items ++ objects_in (shapes_of (l.kinds.0.now, l.kinds.1.now)) (texts l.lines)

abbrev pub decreases-group : goal.decreases-group
decreases-group l = length l.lines - l.at
