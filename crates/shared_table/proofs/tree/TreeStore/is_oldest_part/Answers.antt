use Rattle.std.proofs.Common.{◌≡◌, ℕ, ◌+◌, ◌∷◌, [], ◌≤◌, List, length, ap, sym, ◌∙◌, arith}
use Rattle.processes.specs.Kernel.{is_oldest_part}
use Rattle.processes.specs.Stores.{loads_in}
use Rattle.shared_table.specs.Tree.{Way, filters_on, way_below, way_from, ways_from}
use Rattle.shared_table.specs.inner.On.{GoesOn}
use Rattle.shared_table.proofs.Ways.{front_less, long_loads, long_on, part_here, part_of_none, way_past}
use Rattle.shared_table.proofs.tree.TreeStore.is_oldest_part.Goals as goal

pub returns-in_default-node_at : goal.returns-in_default-node_at
returns-in_default-node_at c =
    let nodes = c.args.self.now.nodes.items in
    let older : Way = way_from nodes c.args.older.now.at in
    let old : List ℕ = loads_in (filters_on older) in
    let past : length nodes ≤ c.in-Some.at = rw c.in_default-node_at.is at c.node_at.ensures in
    let none : way_below (ways_from [] nodes) c.down.next ≡ [] =
    ap (way_below (ways_from [] nodes)) c.in-Some.is ∙ way_past nodes c.in-Some.at past in
    let many : length old ≡ c.len-depth.result = long_loads older ∙ sym (long_on older) ∙ sym c.len-depth.ensures in
    part_of_none old c.len-depth.result many
    ∙ ap (λ (w : Way). is_oldest_part old (loads_in (filters_on w))) (sym none)
    ∙ c.down.invariant

pub returns-then-node-depth : goal.returns-then-node-depth
returns-then-node-depth c =
    let tree = c.args.self.now in
    let nodes = tree.nodes.items in
    let older : Way = way_from nodes c.args.older.now.at in
    let old : List ℕ = loads_in (filters_on older) in
    let m = c.in-Some-node_at.node.now in
    let depth : m.depth ≡ length (way_from nodes c.in-Some.at) = (tree.tree.kept c.in-Some.at m c.in-Some-node_at.ensures).depth in
    let many : c.len-depth.result ≡ length older = c.len-depth.ensures ∙ long_on older in
    let long : length (way_from nodes c.in-Some.at) ≤ length older = omega arith in
    part_here tree.arch c.in-Some.at c.args.older.now.at nodes m tree.tree c.in-Some-node_at.ensures long
    ∙ ap (λ o. is_oldest_part old (loads_in (filters_on (way_below (ways_from [] nodes) o)))) (sym c.in-Some.is)
    ∙ c.down.invariant

pub down-preserved : goal.down-preserved
down-preserved c =
    let tree = c.args.self.now in
    let nodes = tree.nodes.items in
    let older : Way = way_from nodes c.args.older.now.at in
    let old : List ℕ = loads_in (filters_on older) in
    let on : GoesOn nodes c.in-Some.at c.len-depth.result c.down_to-next.result = c.down_to-next.ensures c.in-Some.at c.in-Some-node_at.ensures in
    let rest : Way = way_below (ways_from [] nodes) c.down_to-next.result in
    let deep : c.len-depth.result ≤ length rest = on.deep in
    let many : c.len-depth.result ≡ length older = c.len-depth.ensures ∙ long_on older in
    sym (front_less old rest (way_from nodes c.in-Some.at) on.left (omega (arith, long_loads older)))
    ∙ ap (λ o. is_oldest_part old (loads_in (filters_on (way_below (ways_from [] nodes) o)))) (sym c.in-Some.is)
    ∙ c.down.invariant
