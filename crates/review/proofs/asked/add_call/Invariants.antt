use Rattle.std.proofs.Common.{◌≡◌, ◌++◌, take}
use Rattle.std.specs.List.{flat_map}
use Rattle.review.specs.Asked.{asked_on}
use Rattle.review.proofs.asked.add_call.Given as goal

abbrev pub invariant-loop-arch : goal.invariant-loop-arch
invariant-loop-arch l = l.list.items ≡ l.initial.list.items ++ flat_map (asked_on l.part l.name) (take l.arch-index l.machines)
