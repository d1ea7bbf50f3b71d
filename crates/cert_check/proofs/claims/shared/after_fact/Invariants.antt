use Rattle.std.proofs.Common.{length}
use Rattle.cert_form.specs.Views.{AreLast, claims_from, claims_of}
use Rattle.cert_check.specs.inner.Followed.{AreBut, IsFact}
use Rattle.cert_check.proofs.claims.shared.after_fact.Given as goal

abbrev pub invariant-loop-at : goal.invariant-loop-at
invariant-loop-at l =
    AreBut (IsFact l.fact) (claims_from l.node l.at) (claims_of l.node) × AreLast (claims_from l.node l.at) (claims_of l.node)

abbrev pub decreases-loop-at : goal.decreases-loop-at
decreases-loop-at l = length (claims_from l.node l.at)
