use Rattle.std.proofs.Common.{◌≡◌, drop, map}
use Rattle.cli.specs.Grouped.{are_known}
use Rattle.cli.proofs.WantedLaws.{now_of}
use Rattle.cli.proofs.grouping.are_known.Given as goal

abbrev pub invariant-loop-group : goal.invariant-loop-group
invariant-loop-group l = are_known (map now_of (drop l.group-index l.groups)) ≡ are_known (map now_of l.groups)
