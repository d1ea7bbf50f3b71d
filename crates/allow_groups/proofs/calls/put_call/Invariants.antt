use Rattle.std.proofs.Common.{◌≡◌, ◌++◌, take}
use Rattle.std.specs.List.{flat_map}
use Rattle.allow_groups.specs.Calls.{call_on}
use Rattle.allow_groups.proofs.calls.put_call.Given as goal

abbrev pub invariant-loop-arch : goal.invariant-loop-arch
invariant-loop-arch l = l.list.items ≡ l.initial.list.items ++ flat_map (call_on l.name) (take l.arch-index l.machines)
