use Rattle.std.proofs.Common.{ap, sym, length}
use Rattle.shared_table.proofs.Ways.{way_past}
use Rattle.shared_table.proofs.tree.Tree.depth_at.Goals as goal

pub returns-in-None : goal.returns-in-None
returns-in-None c = sym (ap length (way_past c.args.self.now.nodes.items c.args.place c.in-None.ensures))

pub returns-in-Some : goal.returns-in-Some
returns-in-Some c = (c.args.self.now.tree.kept c.args.place c.in-Some.node.now c.in-Some.ensures).depth
