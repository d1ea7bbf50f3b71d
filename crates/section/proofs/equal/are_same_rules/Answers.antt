use Rattle.std.proofs.Common.{sym, ◌∙◌}
use Rattle.std.specs.Cmp.Lexicographic.{pointwise_decides}
use Rattle.profile.proofs.Same.{equal_rule_decides}
use Rattle.section.proofs.equal.are_same_rules.Goals as goal

pub returns : goal.returns
returns c =
    let decides = pointwise_decides equal_rule_decides c.args.these.now c.args.others.now in
    (λ t. decides.0 (sym c.eq.ensures ∙ t), λ same. c.eq.ensures ∙ decides.1 same)
