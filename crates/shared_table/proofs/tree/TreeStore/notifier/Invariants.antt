-- What is left of the way down has the answer.
use Rattle.std.proofs.Common.{◌≡◌, []}
use Rattle.processes.specs.Stores.{notifier}
use Rattle.shared_table.specs.Tree.{filters_on, way_below, way_from, ways_from}
use Rattle.shared_table.proofs.Ways.{height}
use Rattle.shared_table.proofs.tree.TreeStore.notifier.Given as goal

abbrev pub invariant-down : goal.invariant-down
invariant-down l =
    let nodes = l.self.nodes.items in
    notifier l.rec (filters_on (way_below (ways_from [] nodes) l.next)) ≡ notifier l.rec (filters_on (way_from nodes l.handle.at))

abbrev pub decreases-down : goal.decreases-down
decreases-down l = height l.next
