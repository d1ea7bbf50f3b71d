use Rattle.std.proofs.Common.{sym, ◌∙◌, false, rules}
use Rattle.cert_check.specs.inner.Claimed.{mets_of}
use Rattle.cert_check.specs.inner.Marked.{AreMetMarked}
use Rattle.cert_check.proofs.MetsLaws.{said}
use Rattle.cert_check.proofs.claims.mets.Mets.has.Goals as goal

pub returns-then-at-self : goal.returns-then-at-self
returns-then-at-self c =
    let places = mets_of c.args.self.now.node in
    let whole : AreMetMarked places c.args.self.now.marked.now = search rules in
    let is = whole c.args.rule c.args.own false c.requires.own c.if-at-self.true in
    (λ t. (said places c.args.rule c.args.own).0 (sym is ∙ t), λ has. is ∙ (said places c.args.rule c.args.own).1 has)
