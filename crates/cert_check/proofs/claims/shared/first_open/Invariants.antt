use Rattle.std.proofs.Common.{length}
use Rattle.cert_form.specs.Views.{AreLast, claims_from}
use Rattle.cert_check.specs.inner.Claimed.{mets_of, outs_of}
use Rattle.cert_check.specs.inner.Followed.{AreBut, FollowsBy}
use Rattle.cert_check.proofs.claims.shared.first_open.Given as goal

abbrev pub invariant-loop-at : goal.invariant-loop-at
invariant-loop-at g l =
    AreBut (FollowsBy l.profile (outs_of l.outs.node) (mets_of l.mets.node) (g.S.State.known l.facts.state.now)) (claims_from l.node l.at)
    (claims_from l.node l.asked.0) × AreLast (claims_from l.node l.at) (claims_from l.node l.asked.0)

abbrev pub decreases-loop-at : goal.decreases-loop-at
decreases-loop-at g l = length (claims_from l.node l.at)
