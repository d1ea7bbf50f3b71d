use Rattle.std.proofs.Common.{◌+◌, ◌++◌, ℕ, List, ap, arith, drop, ◌∙◌}
use Rattle.std.proofs.lemmas.Grind.{common_steps}
use Rattle.std.proofs.lemmas.List.{take_all}
use Rattle.json_lines.specs.Kinds.{shapes_of}
use Rattle.json_lines.proofs.Groups.{group_at}
use Rattle.json_lines.proofs.writing.put_group.Goals as goal

pub returns-clause-objects : goal.returns-clause-objects
returns-clause-objects c =
    group_at c.args.told.now.items c.extend_from_slice.new.self.items c.in_ok-object.object.items (shapes_of (c.args.kinds.0.now, c.args.kinds.1.now))
    c.args.lines.now _ c.args.at c.count_of_details-count.result _ c.requires
    (take_all _ (drop (c.args.at + 1) c.args.lines.now) (grind (arith, common_steps))) c.count_of_details-count.ensures.count
    c.in_ok-object.ensures
    (c.in_ok-extend_from_slice.ensures.items ∙ ap (λ (t : List ℕ). c.args.told.now.items ++ t) c.deref.ensures.value)
