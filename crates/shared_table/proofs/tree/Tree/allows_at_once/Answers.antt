use Rattle.std.proofs.Common.{◌<◌, refl, ◌∙◌, arith}
use Rattle.std.proofs.lemmas.Bool.{lt-ltb}
use Rattle.shared_table.proofs.Ways.{way_past}
use Rattle.shared_table.proofs.tree.Tree.allows_at_once.Goals as goal

pub returns-in-None : goal.returns-in-None
returns-in-None c =
    let low : c.args.nr < 512 = omega arith in
    rw (lt-ltb c.args.nr 512 low, way_past c.args.self.now.nodes.items c.args.place.now.at c.in-None.ensures) refl

pub returns-in-Some : goal.returns-in-Some
returns-in-Some c =
    let low : c.args.nr < 512 = omega arith in
    rw (lt-ltb c.args.nr 512 low)
    (c.has.ensures ∙ (c.args.self.now.tree.kept c.args.place.now.at c.in-Some.node.now c.in-Some.ensures).allowed c.args.nr low)
