use Rattle.std.proofs.Common.{◌≡◌, drop, map}
use Rattle.serde_json.specs.View.{view}
use Rattle.profile_json.specs.inner.View.{entry_parts}
use Rattle.profile_json.specs.inner.Reading.{entry_of, each, with_front}
use Rattle.profile_json.proofs.place.entries_in.Given as goal

abbrev pub invariant-loop-at : goal.invariant-loop-at
invariant-loop-at l =
    with_front (map entry_parts l.found.items) (each (entry_of l.family) (map view (drop l.at l.values)))
    ≡ each (entry_of l.family) (map view l.values)
