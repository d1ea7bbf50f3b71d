use Rattle.std.proofs.Common.{◌≡◌, ◌++◌, ◌∷◌, [], List, ap, ◌∙◌}
use Rattle.differ.specs.Left.{verdict}
use Rattle.differ.specs.declared.left.Rest.{Rest}
use Rattle.differ.proofs.LeftLaws.{verdict_push}
use Rattle.differ.proofs.left.add_rest.Goals as goal

pub returns : goal.returns
returns c = λ a.
    let rules : List Rest = c.args.side.now.rules.items in
    ap (λ rs. verdict c.args.side.now.last rs a) c.in_ok-push.ensures.items ∙ verdict_push c.args.side.now.last rules c.args.rest a
