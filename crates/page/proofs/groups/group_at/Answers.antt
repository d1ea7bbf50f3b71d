use Rattle.std.proofs.Common.{◌+◌, drop, refl, arith}
use Rattle.std.proofs.lemmas.Grind.{common_steps}
use Rattle.std.proofs.lemmas.List.{take_all}
use Rattle.page.proofs.Grouped.{group_here}
use Rattle.page.proofs.groups.group_at.Goals as goal

pub returns-clause-group : goal.returns-clause-group
returns-clause-group c =
    group_here c.args.lines.now _ _ c.args.at c.count_of_details-count.result _ c.requires
    (take_all _ (drop (c.args.at + 1) c.args.lines.now) (grind (arith, common_steps))) c.count_of_details-count.ensures.count refl
