use Rattle.std.proofs.Common.{◌≡◌, map, take}
use Rattle.call_groups.specs.Groups.{calls_of_all, now_of}
use Rattle.call_groups.proofs.calls.calls_of_all.Given as goal

abbrev pub invariant-loop-group : goal.invariant-loop-group
invariant-loop-group l = map now_of l.names.items ≡ calls_of_all (map now_of (take l.group-index l.groups))
