use Rattle.std.proofs.Common.{◌≡◌, ◌++◌, take}
use Rattle.std.specs.List.{flat_map}
use Rattle.review.specs.Asked.{asked_by}
use Rattle.review.proofs.asked.add_row.Given as goal

abbrev pub invariant-loop-name : goal.invariant-loop-name
invariant-loop-name l =
    l.list.items ≡ l.initial.list.items ++ flat_map (λ name. asked_by l.machines l.part name.now) (take l.name-index l.names)
