use Rattle.std.proofs.Common.{ℕ, ◌<◌}
use Rattle.cert_state.specs.Entailment.{IsDeadAt}
use Rattle.cert_state.proofs.entailment.dead.Given as goal

abbrev pub invariant-loop-word : goal.invariant-loop-word
invariant-loop-word g l = (w : ℕ) → w < l.word → IsDeadAt (g.S.State.known l.state) w → ⊥
