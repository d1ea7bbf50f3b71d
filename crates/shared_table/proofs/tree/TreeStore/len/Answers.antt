use Rattle.std.proofs.Common.{sym, ◌∙◌}
use Rattle.shared_table.specs.Tree.{way_from}
use Rattle.shared_table.proofs.Ways.{long_on}
use Rattle.shared_table.proofs.tree.TreeStore.len.Goals as goal

pub returns : goal.returns
returns c = c.depth_at.ensures ∙ sym (long_on (way_from c.args.self.now.nodes.items c.args.handle.now.at))
