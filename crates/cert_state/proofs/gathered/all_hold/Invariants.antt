use Rattle.std.proofs.Common.{◌≡◌, ◌++◌, List, length}
use Rattle.std.specs.Prelude.{All}
use Rattle.cert_state.specs.declared.literal.Lit.{Lit}
use Rattle.cert_state.specs.inner.Gathered.{Holds}
use Rattle.cert_state.proofs.gathered.all_hold.Given as goal

abbrev pub invariant-loop-literal : goal.invariant-loop-literal
invariant-loop-literal g l =
    (passed : List Lit) × (passed ++ g.S.State.rest l.state l.at ≡ g.S.State.known l.state) × All (Holds l.asked l.word) passed

abbrev pub decreases-loop-literal : goal.decreases-loop-literal
decreases-loop-literal g l = length (g.S.State.rest l.state l.at)
