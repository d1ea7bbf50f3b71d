use Rattle.std.proofs.Common.{◌≡◌, length, map}
use Rattle.profile.specs.declared.conditions.Cond.{Cond}
use Rattle.profile.specs.Operator.{are_distinct}
use Rattle.profile.proofs.rules.are_apart.Given as goal

abbrev pub invariant-loop-conds : goal.invariant-loop-conds
invariant-loop-conds l = are_distinct (map (λ (c : Cond). c.index) l.conds) ≡ are_distinct (map (λ (c : Cond). c.index) l.initial.conds)

abbrev pub decreases-loop-conds : goal.decreases-loop-conds
decreases-loop-conds l = length l.conds
