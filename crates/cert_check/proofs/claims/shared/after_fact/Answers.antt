use Rattle.std.proofs.Common.{[], refl}
use Rattle.cert_check.specs.inner.Followed.{IsFact}
use Rattle.cert_check.proofs.SharedLaws.{all_left, last_again, one_more}
use Rattle.cert_check.proofs.claims.shared.after_fact.Goals as goal

pub loop-at-init : goal.loop-at-init
loop-at-init c = (all_left (IsFact c.args.fact) _ _ c.chain-at.ensures.claims, ([], c.chain-at.ensures.claims))

pub loop-at-preserved : goal.loop-at-preserved
loop-at-preserved c = (
  one_more (IsFact c.args.fact) c.in-Some.claim _ _ _ c.in-Some.ensures (c.if-not-is_fact.ensures.0 refl) c.loop-at.invariant.0,
  last_again c.in-Some.claim _ _ _ c.in-Some.ensures c.loop-at.invariant.1,
)
