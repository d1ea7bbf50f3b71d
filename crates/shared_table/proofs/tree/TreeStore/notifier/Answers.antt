use Rattle.std.proofs.Common.{◌≡◌, ◌≤◌, ◌∷◌, [], Some, ap, sym, length, ◌∙◌}
use Rattle.processes.specs.Stores.{notifier}
use Rattle.shared_table.specs.Tree.{Way, filters_on, way_below, way_from, ways_from}
use Rattle.shared_table.proofs.Ways.{way_is, way_past}
use Rattle.shared_table.proofs.Verdicts.{notifier_behind, notifier_here}
use Rattle.shared_table.proofs.tree.TreeStore.notifier.Goals as goal

pub returns-in_default-node_at : goal.returns-in_default-node_at
returns-in_default-node_at c =
    let nodes = c.args.self.now.nodes.items in
    let past : length nodes ≤ c.in-Some.at = rw c.in_default-node_at.is at c.node_at.ensures in
    let none : way_below (ways_from [] nodes) c.down.next ≡ [] =
    ap (way_below (ways_from [] nodes)) c.in-Some.is ∙ way_past nodes c.in-Some.at past in
    ap (λ (w : Way). notifier c.args.rec.now (filters_on w)) (sym none) ∙ c.down.invariant

pub returns-then-notifies : goal.returns-then-notifies
returns-then-notifies c =
    let tree = c.args.self.now in
    let nodes = tree.nodes.items in
    let r = c.args.rec.now in
    let m = c.in-Some-node_at.node.now in
    let rest : Way = way_below (ways_from [] nodes) m.below in
    let here : way_below (ways_from [] nodes) c.down.next ≡ (c.in-Some.at, m.program) ∷ rest =
    ap (way_below (ways_from [] nodes)) c.in-Some.is ∙ way_is tree.arch nodes c.in-Some.at m tree.tree c.in-Some-node_at.ensures in
    sym (notifier_here r c.in-Some.at m.program rest (sym c.notifies.ensures ∙ c.if-notifies.true))
    ∙ ap (λ (w : Way). notifier r (filters_on w)) (sym here) ∙ c.down.invariant

pub down-preserved : goal.down-preserved
down-preserved c =
    let tree = c.args.self.now in
    let nodes = tree.nodes.items in
    let r = c.args.rec.now in
    let m = c.in-Some-node_at.node.now in
    let rest : Way = way_below (ways_from [] nodes) m.below in
    let here : way_below (ways_from [] nodes) c.down.next ≡ (c.in-Some.at, m.program) ∷ rest =
    ap (way_below (ways_from [] nodes)) c.in-Some.is ∙ way_is tree.arch nodes c.in-Some.at m tree.tree c.in-Some-node_at.ensures in
    sym (notifier_behind r c.in-Some.at m.program rest (sym c.notifies.ensures ∙ c.if-notifies.false))
    ∙ ap (λ (w : Way). notifier r (filters_on w)) (sym here) ∙ c.down.invariant
