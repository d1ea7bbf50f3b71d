use Rattle.cert_check.specs.inner.Among.{AreAmong}
use Rattle.cert_check.proofs.entailed.after.Given as goal

abbrev pub invariant-loop : goal.invariant-loop
invariant-loop g l = AreAmong (g.S.State.rest l.state l.at) (g.S.State.known l.state)
