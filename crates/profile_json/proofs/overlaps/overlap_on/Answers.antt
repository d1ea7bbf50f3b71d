use Rattle.profile_json.specs.inner.View.{entry_parts}
use Rattle.profile_json.proofs.clashing.Clashing.{on_some}
use Rattle.profile_json.proofs.overlaps.overlap_on.Goals as goal

pub returns-in-Some : goal.returns-in-Some
returns-in-Some c =
    let way = on_some (entry_parts c.args.first.now) (entry_parts c.args.second.now) c.args.name.now c.args.arch c.in-Some.nr
    c.rule_of.result c.rule_of-in-Some.result c.in-Some.ensures c.rule_of.ensures c.rule_of-in-Some.ensures in
    (λ t. way.0 (c.overlap.ensures.0 t), λ o. c.overlap.ensures.1 (way.1 o))
