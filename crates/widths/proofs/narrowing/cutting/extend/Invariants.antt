use Rattle.std.proofs.Common.{◌≡◌, ◌++◌, map, take}
use Rattle.widths.specs.Cutting as spec
use Rattle.widths.proofs.narrowing.cutting.extend.Given as goal

abbrev pub invariant-loop-part : goal.invariant-loop-part
invariant-loop-part l =
    map (λ v. v.items) l.made.items ≡ map (λ v. v.items) l.initial.made.items ++ spec.with_each (take l.part-index l.parts) l.list.items
