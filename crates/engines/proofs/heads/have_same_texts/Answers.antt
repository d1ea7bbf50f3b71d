use Rattle.std.proofs.Common.{map, Some, option_map, sym, ◌∙◌, ap}
use Rattle.std.proofs.lemmas.Simd.{map-map}
use Rattle.serde_json.specs.View.{view}
use Rattle.profile_json.specs.Lookup.{text}
use Rattle.engines.proofs.heads.have_same_texts.Goals as goal

pub returns : goal.returns
returns c = λ t.
    let one = map-map text view c.in-Some.a.now in
    let other = map-map text view c.in-Some-list_at.b.now in
    ap (option_map (map text)) (sym c.in-Some.ensures) ∙ ap Some (one ∙ c.are_same_texts.ensures t ∙ sym other)
    ∙ ap (option_map (map text)) c.in-Some-list_at.ensures
