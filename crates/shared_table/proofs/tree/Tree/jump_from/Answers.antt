use Rattle.shared_table.specs.Tree.{way_from}
use Rattle.shared_table.proofs.Ways.{left_of_left, left_self}
use Rattle.shared_table.proofs.tree.Tree.jump_from.Goals as goal

pub returns-in_default-clause-left : goal.returns-in_default-clause-left
returns-in_default-clause-left c = left_self (way_from c.args.self.now.nodes.items c.args.place)

pub returns-in_default-jump_at-clause-left : goal.returns-in_default-jump_at-clause-left
returns-in_default-jump_at-clause-left c = left_self (way_from c.args.self.now.nodes.items c.args.place)

pub returns-clause-left : goal.returns-clause-left
returns-clause-left c = left_self (way_from c.args.self.now.nodes.items c.args.place)

pub returns-then-length-next-clause-left : goal.returns-then-length-next-clause-left
returns-then-length-next-clause-left c =
    let nodes = c.args.self.now.nodes.items in
    left_of_left (way_from nodes c.in-Some-jump_at.far) (way_from nodes c.in-Some.to) (way_from nodes c.args.place) c.in-Some-jump_at.ensures.left c.in-Some.ensures.left
