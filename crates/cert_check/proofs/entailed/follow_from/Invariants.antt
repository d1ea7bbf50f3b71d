use Rattle.std.proofs.Common.{◌↔◌, ◌++◌, length}
use Rattle.std.specs.Prelude.{All, option_to_list}
use Rattle.cert_state.specs.Entailment.{Entails}
use Rattle.cert_check.specs.inner.Among.{AreAmong}
use Rattle.cert_check.proofs.entailed.follow_from.Given as goal

abbrev pub invariant-loop-literal : goal.invariant-loop-literal
invariant-loop-literal g l =
    (All (Entails (g.S.State.known l.fn.known.state.now ++ option_to_list l.fn.known.more)) (g.T.State.rest l.there l.at)
    ↔ All (Entails (g.S.State.known l.fn.known.state.now ++ option_to_list l.fn.known.more)) (g.T.State.rest l.there l.start))
    × AreAmong (g.S.State.rest l.fn.known.state.now l.from) (g.S.State.known l.fn.known.state.now)

abbrev pub decreases-loop-literal : goal.decreases-loop-literal
decreases-loop-literal g l = length (g.T.State.rest l.there l.at)
