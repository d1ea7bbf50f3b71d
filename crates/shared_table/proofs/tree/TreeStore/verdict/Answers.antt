use Rattle.std.proofs.Common.{sym}
use Rattle.std.specs.Prelude.{nat_lt}
use Rattle.std.proofs.lemmas.Bool.{and_parts}
use Rattle.shared_table.specs.Store.{way_of}
use Rattle.shared_table.specs.Tree.{all_allow}
use Rattle.shared_table.proofs.Verdicts.{allowed_at_once}
use Rattle.shared_table.proofs.tree.TreeStore.verdict.Goals as goal

pub returns-then-allows_at_once : goal.returns-then-allows_at_once
returns-then-allows_at_once c =
    let way = way_of c.args.self.now c.args.handle.now in
    let r = c.args.rec.now in
    let parts = and_parts (nat_lt r.nr 512) (all_allow c.args.self.now.arch way r.nr) (sym c.if-allows_at_once.ensures) in
    allowed_at_once r way (rw c.if-rec-self.true parts.1)
