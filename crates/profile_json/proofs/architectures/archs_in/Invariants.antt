use Rattle.std.proofs.Common.{◌≡◌, drop, map}
use Rattle.serde_json.specs.View.{view}
use Rattle.profile_json.specs.inner.Reading.{arch_of, each, with_front}
use Rattle.profile_json.proofs.architectures.archs_in.Given as goal

abbrev pub invariant-loop-value : goal.invariant-loop-value
invariant-loop-value l =
    with_front l.found.items (each (arch_of l.family) (map view (drop l.value-index l.values)))
    ≡ each (arch_of l.family) (map view l.values)
