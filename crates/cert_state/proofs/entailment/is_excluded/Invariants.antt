use Rattle.std.proofs.Common.{◌↔◌, length}
use Rattle.cert_state.specs.Entailment.{IsExcluded}
use Rattle.cert_state.proofs.entailment.is_excluded.Given as goal

abbrev pub invariant-loop-literal : goal.invariant-loop-literal
invariant-loop-literal g l =
    IsExcluded (g.S.State.known l.state) l.word l.mask l.datum ↔ IsExcluded (g.S.State.rest l.state l.at) l.word l.mask l.datum

abbrev pub decreases-loop-literal : goal.decreases-loop-literal
decreases-loop-literal g l = length (g.S.State.rest l.state l.at)
