-- The groups so far, in front of those of the lines that are left.
use Rattle.std.proofs.Common.{◌≡◌, ◌++◌, ◌-◌, drop, length}
use Rattle.json_lines.specs.Lines.{groups_of}
use Rattle.json_lines.specs.inner.Views.{texts}
use Rattle.page.specs.inner.Views.{groups}
use Rattle.page.proofs.groups.groups_of.Given as goal

abbrev pub invariant-group : goal.invariant-group
invariant-group l = groups_of (texts l.lines) ≡ groups l.found.items ++ groups_of (texts (drop l.at l.lines))

abbrev pub decreases-group : goal.decreases-group
decreases-group l = length l.lines - l.at
