use Rattle.std.proofs.Common.{List, subst}
use Rattle.profile.specs.Policy.{Policy}
use Rattle.together.specs.inner.Walked.{SaysAll}
use Rattle.together.proofs.ProductLaws.{first_and_others}
use Rattle.together.proofs.product.together_on.Goals as goal

pub returns : goal.returns
returns c =
    subst (λ (ps : List Policy). SaysAll c.args.way ps c.args.call.now c.in_ok-made.made)
    (first_and_others c.args.profiles.now c.first-item.result c.in-len1-up.len_at_least c.first-item.is) c.in_ok-made.ensures
