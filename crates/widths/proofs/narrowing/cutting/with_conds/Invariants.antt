use Rattle.std.proofs.Common.{◌≡◌, map, take}
use Rattle.std.specs.List.{All}
use Rattle.widths.specs.Cutting as spec
use Rattle.widths.proofs.narrowing.cutting.with_conds.Given as goal

abbrev pub invariant-loop-list : goal.invariant-loop-list
invariant-loop-list l =
    All (spec.IsLike l.rule) l.made.items × (map (λ q. q.conds.items) l.made.items ≡ map (λ v. v.items) (take l.list-index l.lists))
