use Rattle.std.proofs.Common.{map, take}
use Rattle.std.specs.List.{AllZip}
use Rattle.recover.specs.Recovered.{IsRecovered}
use Rattle.combine.proofs.stack.bundles_of.Given as goal

abbrev pub invariant-loop-filter : goal.invariant-loop-filter
invariant-loop-filter l =
    AllZip (λ filter bundle. IsRecovered l.native bundle filter) (map (λ f. f.items) (take l.filter-index l.filters)) (map (λ b. b.items) l.bundles.items)
