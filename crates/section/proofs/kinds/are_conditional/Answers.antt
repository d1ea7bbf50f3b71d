use Rattle.std.proofs.Common.{◌∙◌, ap, map, option_map, sym}
use Rattle.serde_json.specs.View.{view}
use Rattle.profile_json.specs.Lookup.{elements}
use Rattle.profile_json.proofs.reading.Looking.{elements-items_of}
use Rattle.section.specs.Kinds.{is_conditional, some_conditional}
use Rattle.section.proofs.Lists.{any_of_map}
use Rattle.section.proofs.kinds.are_conditional.Goals as goal
use Rattle.std.specs.List.{list_any}

pub returns-in-Some : goal.returns-in-Some
returns-in-Some c =
    c.some_conditional.ensures ∙ any_of_map view is_conditional c.as_slice.result.now
    ∙ ap (λ vs. list_any is_conditional (map view vs)) c.as_slice.ensures.value
    ∙ ap (list_any is_conditional) (sym (elements-items_of (map view c.in-Some.values.now.items)))
    ∙ ap (λ o. some_conditional (option_map elements o)) c.in-Some.ensures
