use Rattle.std.proofs.Common.{◌≡◌, ◌++◌, map, take}
use Rattle.call_groups.specs.Groups.{now_of}
use Rattle.call_groups.proofs.own.put_names.Given as goal

abbrev pub invariant-loop-name : goal.invariant-loop-name
invariant-loop-name l = map now_of l.names.items ≡ map now_of l.initial.names.items ++ map now_of (take l.name-index l.more)
