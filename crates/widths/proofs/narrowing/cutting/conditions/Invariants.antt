use Rattle.std.proofs.Common.{map, take}
use Rattle.widths.specs.Cutting as spec
use Rattle.widths.proofs.narrowing.cutting.conditions.Given as goal

abbrev pub invariant-loop-cond : goal.invariant-loop-cond
invariant-loop-cond l = spec.AreCombined l.plan (take l.cond-index l.conds) (map (λ v. v.items) l.made.items)
