use Rattle.cert_form.specs.Views.{says}
use Rattle.cert_check.specs.inner.Claimed.{outs_of}
use Rattle.cert_check.specs.inner.Followed.{FollowsBy}
use Rattle.cert_check.proofs.SharedLaws.{told_by}
use Rattle.cert_check.proofs.passage.Passage.rest_follows_by.Goals as goal

pub returns : goal.returns
returns g c =
    let P = FollowsBy c.args.self.now.profile.now (outs_of c.args.outs.now.node) (says c.args.self.now.node.now).met (g.S.State.known c.args.facts.now.state.now) in
    told_by P c.args.self.now.there.now c.args.asked.0 c.args.asked.1 c.first_open.result c.is_none.result c.is_none.ensures
    (simp c.of-mets.ensures at c.first_open.ensures)
