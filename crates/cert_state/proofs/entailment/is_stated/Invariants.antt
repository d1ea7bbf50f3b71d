use Rattle.std.proofs.Common.{◌↔◌, length}
use Rattle.std.specs.Prelude.{Contains}
use Rattle.cert_state.proofs.entailment.is_stated.Given as goal

abbrev pub invariant-loop-literal : goal.invariant-loop-literal
invariant-loop-literal g l = Contains (g.S.State.known l.state) l.wanted ↔ Contains (g.S.State.rest l.state l.at) l.wanted

abbrev pub decreases-loop-literal : goal.decreases-loop-literal
decreases-loop-literal g l = length (g.S.State.rest l.state l.at)
