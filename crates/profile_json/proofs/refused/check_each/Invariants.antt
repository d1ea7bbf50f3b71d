use Rattle.std.proofs.Common.{◌≡◌, drop, map}
use Rattle.serde_json.specs.View.{view}
use Rattle.profile_json.specs.inner.Reading.{flags_in}
use Rattle.profile_json.proofs.refused.check_each.Given as goal

abbrev pub invariant-loop-value : goal.invariant-loop-value
invariant-loop-value l = flags_in (map view (drop l.value-index l.values)) ≡ flags_in (map view l.values)
