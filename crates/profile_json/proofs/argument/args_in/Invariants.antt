use Rattle.std.proofs.Common.{◌≡◌, drop, map, true, []}
use Rattle.serde_json.specs.View.{view}
use Rattle.profile.specs.Operator.{are_distinct}
use Rattle.profile_json.specs.Parts.{cond_parts}
use Rattle.profile_json.specs.inner.Reading.{args_after}
use Rattle.profile_json.proofs.reading.ArgPlaces.{AreNamedBefore}
use Rattle.profile_json.proofs.argument.args_in.Given as goal

abbrev pub invariant-loop-at : goal.invariant-loop-at
invariant-loop-at l = record {
  reading : args_after (map cond_parts l.found.items) (map view (drop l.at l.values)) ≡ args_after [] (map view l.values);
  apart : are_distinct (map (λ c. c.index) l.found.items) ≡ true;
  named : AreNamedBefore (map view l.values) l.at l.found.items;
}
