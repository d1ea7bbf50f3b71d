use Rattle.std.proofs.Common.{sym, ◌∙◌}
use Rattle.cert_form.specs.Views.{says}
use Rattle.cert_check.specs.inner.Ways.{edge_of}
use Rattle.cert_check.proofs.SharedLaws.{literals_follow}
use Rattle.cert_check.proofs.passage.Passage.claims_follow.Goals as goal

pub returns : goal.returns
returns c = (
  λ t. literals_follow c.args.self.now.profile.now (says c.args.self.now.node.now) (edge_of c.args.self.now.way.now) c.args.self.now.there.now
      (sym c.is_chained.ensures ∙ c.if-is_chained.false) (c.entails_all.ensures.0 t),
  λ h. c.entails_all.ensures.1 h.literals,
)
