use Rattle.std.proofs.Common.{◌≤◌, length, arith}
use Rattle.shared_table.specs.Tree.{way_from}
use Rattle.shared_table.proofs.Ways.{goes_below, jumps_on}
use Rattle.shared_table.proofs.tree.Tree.down_to.Goals as goal

pub returns-then-depth_at-depth : goal.returns-then-depth_at-depth
returns-then-depth_at-depth c = λ i stands.
    let tree = c.args.self.now in
    let deep : c.args.depth ≤ length (way_from tree.nodes.items c.in-Some.to) = omega (arith, c.depth_at.ensures, c.if-depth_at-depth.true) in
    jumps_on tree.arch i c.in-Some.to c.args.depth tree.nodes.items c.args.node.now tree.tree stands c.in-Some.is deep

pub returns : goal.returns
returns c = λ i stands.
    let tree = c.args.self.now in
    goes_below tree.arch i c.args.depth tree.nodes.items c.args.node.now tree.tree stands c.requires
