use Rattle.std.proofs.Common.{◌≡◌, ◌≤◌, length, arith}
use Rattle.shared_table.specs.Tree.{IsFurther, way_from}
use Rattle.shared_table.proofs.Ways.{left_short}
use Rattle.shared_table.proofs.tree.Tree.jump_at.Goals as goal

pub overflow_sub-result : goal.overflow_sub-result
overflow_sub-result c =
    let tree = c.args.self.now in
    let nodes = tree.nodes.items in
    let n = c.in_ok-node.node.now in
    let further : IsFurther nodes c.args.place c.in_ok-to.to = tree.tree.jumps c.args.place c.in_ok-to.to n c.in_ok-node.ensures c.in_ok-to.was in
    let short : length (way_from nodes c.in_ok-to.to) ≤ length (way_from nodes c.args.place) =
    left_short (way_from nodes c.in_ok-to.to) (way_from nodes c.args.place) further.left in
    let depth : n.depth ≡ length (way_from nodes c.args.place) = (tree.tree.kept c.args.place n c.in_ok-node.ensures).depth in
    let low : c.depth_at.result ≡ length (way_from nodes c.in_ok-to.to) = c.depth_at.ensures in
    omega arith

pub returns : goal.returns
returns c =
    let tree = c.args.self.now in
    tree.tree.jumps c.args.place c.in_ok-to.to c.in_ok-node.node.now c.in_ok-node.ensures c.in_ok-to.was
