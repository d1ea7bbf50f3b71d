use Rattle.std.proofs.Common.{sym, ◌∙◌}
use Rattle.profile_json.proofs.Lists.{has_names}
use Rattle.profile_json.proofs.overlaps.overlap_by_name.Goals as goal

pub returns-then-not-has_name : goal.returns-then-not-has_name
returns-then-not-has_name c =
    let way = has_names c.deref.result.now c.args.first.now.names.items c.args.name.now c.has_name.result c.deref.ensures.value
    c.has_name.ensures in
    (λ f. cc, λ p. sym c.if-not-has_name.true ∙ way.1 p.0)

pub returns : goal.returns
returns c =
    let way = has_names c.deref.result.now c.args.first.now.names.items c.args.name.now c.has_name.result c.deref.ensures.value
    c.has_name.ensures in
    (λ t. (way.0 c.if-not-has_name.false, c.overlap_under.ensures.0 t), λ p. c.overlap_under.ensures.1 p.1)
