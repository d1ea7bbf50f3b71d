use Rattle.std.proofs.Common.{◌≡◌, ◌∙◌, List, ap, refl, subst, sym}
use Rattle.std.specs.Prelude.{Some, slice_get}
use Rattle.std.proofs.lemmas.Option.{slice_get-get_or}
use Rattle.profile.specs.declared.rules.Rule.{Rule}
use Rattle.cert_check.proofs.judging.Agreement.one_says_at.Goals as goal

pub returns : goal.returns
returns g c =
    let rule = c.index-rules-place.result in
    let place = c.args.place in
    let here : slice_get c.rules-rules.result.now place ≡ Some rule =
    slice_get-get_or c.rules-rules.result.now place rule c.if-place-rules.false ∙ ap Some (sym c.index-rules-place.is) in
    let stands = subst (λ (rules : List Rule). slice_get rules place ≡ Some rule) c.rules-rules.ensures.rules here in
    λ so. let says = c.says_at.ensures so in
    record { place = place; rule = rule; is_of = record { stands = stands; left = says.left }; is_yes = says.is_yes; word = says.word }
