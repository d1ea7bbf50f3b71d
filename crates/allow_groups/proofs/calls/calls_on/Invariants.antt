use Rattle.std.proofs.Common.{◌≡◌, map, take}
use Rattle.call_groups.specs.Groups.{now_of}
use Rattle.allow_groups.specs.Calls.{calls_on}
use Rattle.allow_groups.proofs.calls.calls_on.Given as goal

abbrev pub invariant-loop-name : goal.invariant-loop-name
invariant-loop-name l = l.list.items ≡ calls_on l.machines (map now_of (take l.name-index l.names))
