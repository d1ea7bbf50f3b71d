use Rattle.std.proofs.Common.{map, Ok, option_map, sym, ◌∙◌, ap}
use Rattle.serde_json.specs.View.{view}
use Rattle.profile_json.specs.Lookup.{elements}
use Rattle.profile_json.specs.inner.Reading.{typed}
use Rattle.profile_json.proofs.reading.Looking.{elements-items_of}
use Rattle.profile_json.proofs.lookup.list_of.Goals as goal

pub returns-in-Some : goal.returns-in-Some
returns-in-Some c = ap (λ o. typed (option_map elements o)) (sym c.in-Some.ensures)
    ∙ ap Ok (elements-items_of (map view c.in-Some.values.now.items) ∙ ap (map view) (sym c.as_slice.ensures.value))
