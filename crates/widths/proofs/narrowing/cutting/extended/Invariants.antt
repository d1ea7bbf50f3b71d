use Rattle.std.proofs.Common.{◌≡◌, map, take}
use Rattle.widths.specs.Cutting as spec
use Rattle.widths.proofs.narrowing.cutting.extended.Given as goal

abbrev pub invariant-loop-list : goal.invariant-loop-list
invariant-loop-list l = map (λ v. v.items) l.made.items ≡ spec.extended l.parts (map (λ v. v.items) (take l.list-index l.lists))
