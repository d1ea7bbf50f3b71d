use Rattle.std.proofs.Common.{map, Some, option_map, sym, ◌∙◌, ap}
use Rattle.serde_json.specs.View.{view}
use Rattle.profile_json.specs.Lookup.{elements}
use Rattle.profile_json.proofs.reading.Looking.{elements-items_of}
use Rattle.engines.proofs.heads.items_of.Goals as goal

pub returns-in-Some : goal.returns-in-Some
returns-in-Some c =
    let listed = elements-items_of (map view c.in-Some.values.now.items) ∙ ap (map view) (sym c.as_slice.ensures.value) in
    sym (ap (option_map elements) (sym c.in-Some.ensures) ∙ ap Some listed)
