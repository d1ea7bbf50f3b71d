use Rattle.std.proofs.Common.{ap, sym}
use Rattle.processes.specs.Stores.{size_beside}
use Rattle.shared_table.specs.Tree.{filters_on}
use Rattle.shared_table.proofs.Ways.{way_past}
use Rattle.shared_table.proofs.tree.TreeStore.size.Goals as goal

pub returns-in-None-clause-size : goal.returns-in-None-clause-size
returns-in-None-clause-size c =
    sym (ap (λ way. size_beside (filters_on way)) (way_past c.args.self.now.nodes.items c.args.handle.now.at c.in-None.ensures))

pub returns-in-Some-clause-size : goal.returns-in-Some-clause-size
returns-in-Some-clause-size c = (c.args.self.now.tree.kept c.args.handle.now.at c.in-Some.node.now c.in-Some.ensures).size

pub returns-in-Some-clause-small : goal.returns-in-Some-clause-small
returns-in-Some-clause-small c = (c.args.self.now.tree.kept c.args.handle.now.at c.in-Some.node.now c.in-Some.ensures).small
