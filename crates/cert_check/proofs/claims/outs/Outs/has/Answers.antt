use Rattle.std.proofs.Common.{sym, ◌∙◌, false, rules}
use Rattle.cert_check.specs.inner.Claimed.{outs_of}
use Rattle.cert_check.specs.inner.Marked.{AreMarked}
use Rattle.cert_check.proofs.OutsLaws.{among}
use Rattle.cert_check.proofs.claims.outs.Outs.has.Goals as goal

pub returns : goal.returns
returns c =
    let places = outs_of c.args.self.now.node in
    let whole : AreMarked places c.args.self.now.marked.now = search rules in
    let is = whole c.args.place false c.requires in
    (λ t. (among places c.args.place).0 (sym is ∙ t), λ has. is ∙ (among places c.args.place).1 has)
