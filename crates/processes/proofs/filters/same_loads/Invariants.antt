use Rattle.std.proofs.Common.{◌≡◌, length}
use Rattle.std.specs.Prelude.{nat_eq}
use Rattle.std.specs.Cmp.Lexicographic.{pointwise}
use Rattle.processes.specs.inner.Loads.{loads_of}
use Rattle.processes.proofs.filters.same_loads.Given as goal

abbrev pub invariant-loop-left : goal.invariant-loop-left
invariant-loop-left l = pointwise nat_eq (loads_of l.left) (loads_of l.right)
    ≡ pointwise nat_eq (loads_of l.initial.left) (loads_of l.initial.right)

abbrev pub decreases-loop-left : goal.decreases-loop-left
decreases-loop-left l = length l.left
