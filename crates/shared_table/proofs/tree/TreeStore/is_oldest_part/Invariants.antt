-- What is left of the way down has the answer.
use Rattle.std.proofs.Common.{◌≡◌, []}
use Rattle.processes.specs.Kernel.{is_oldest_part}
use Rattle.processes.specs.Stores.{loads_in}
use Rattle.shared_table.specs.Tree.{filters_on, way_below, way_from, ways_from}
use Rattle.shared_table.proofs.Ways.{height}
use Rattle.shared_table.proofs.tree.TreeStore.is_oldest_part.Given as goal

abbrev pub invariant-down : goal.invariant-down
invariant-down l =
    let nodes = l.self.nodes.items in
    let old = loads_in (filters_on (way_from nodes l.older.at)) in
    is_oldest_part old (loads_in (filters_on (way_below (ways_from [] nodes) l.next)))
    ≡ is_oldest_part old (loads_in (filters_on (way_from nodes l.newer.at)))

abbrev pub decreases-down : goal.decreases-down
decreases-down l = height l.next
