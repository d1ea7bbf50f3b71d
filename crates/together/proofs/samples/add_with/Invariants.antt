use Rattle.std.proofs.Common.{◌≡◌, ◌++◌, map, take, slice_set}
use Rattle.together.proofs.samples.add_with.Given as goal

abbrev pub invariant-loop-value : goal.invariant-loop-value
invariant-loop-value l = l.list.items ≡ l.initial.list.items ++ map (λ v. slice_set l.args l.index v) (take l.value-index l.values)
