use Rattle.std.proofs.Common.{ℕ, List, map, drop}
use Rattle.std.specs.List.{Any, Contains}
use Rattle.profile_json.specs.inner.View.{entry_parts}
use Rattle.profile_json.specs.inner.Clashes.{OverlapOn}
use Rattle.profile_json.proofs.overlaps.clash_of.Given as goal

abbrev pub invariant-loop-name : goal.invariant-loop-name
invariant-loop-name l = (name : List ℕ) → Contains (entry_parts l.first).names name → Contains (entry_parts l.second).names name
    → Any (OverlapOn (entry_parts l.first) (entry_parts l.second) name) l.machines
    → Contains (map (λ n. n.now) (drop l.name-index l.second.names.items)) name
