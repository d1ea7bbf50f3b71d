-- Each of those so far is like the first one, and a difference where all are.
use Rattle.std.specs.List.{All}
use Rattle.machines.specs.declared.arch.Family.{Family}
use Rattle.profile.specs.Policy.{Policy}
use Rattle.compare.specs.Difference.{IsDifference, IsLike}
use Rattle.compare.proofs.change.change_of.Given as goal

abbrev pub invariant-loop-other : goal.invariant-loop-other
invariant-loop-other l =
    (family : Family) (p q : Policy) → All (IsDifference family p q) l.others → All (λ d. IsDifference family p q d × IsLike l.first d) l.like.items
