use Rattle.std.proofs.Common.{◌≡◌, drop, map}
use Rattle.serde_json.specs.View.{view}
use Rattle.profile_json.specs.inner.Reading.{name_of, each, with_front}
use Rattle.profile_json.proofs.syscalls.names_in.Given as goal

abbrev pub invariant-loop-at : goal.invariant-loop-at
invariant-loop-at l =
    with_front (map (λ n. n.now) l.found.items) (each (name_of l.family) (map view (drop l.at l.values)))
    ≡ each (name_of l.family) (map view l.values)
