use Rattle.std.proofs.Common.{◌≡◌, take}
use Rattle.std.specs.List.{flat_map}
use Rattle.review.specs.Asked.{asked_in}
use Rattle.review.proofs.asked.asked_of.Given as goal

abbrev pub invariant-loop-row : goal.invariant-loop-row
invariant-loop-row l = l.list.items ≡ flat_map (asked_in l.machines) (take l.row-index l.rows)
