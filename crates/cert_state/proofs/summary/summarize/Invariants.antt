use Rattle.std.proofs.Common.{◌≡◌, length}
use Rattle.cert_state.specs.inner.Summary.{summary_of, unknown}
use Rattle.cert_state.proofs.summary.summarize.Given as goal

abbrev pub invariant-loop-literal : goal.invariant-loop-literal
invariant-loop-literal g l =
    summary_of (g.S.State.rest l.state l.at) l.word l.summary ≡ summary_of (g.S.State.known l.state) l.word unknown

abbrev pub decreases-loop-literal : goal.decreases-loop-literal
decreases-loop-literal g l = length (g.S.State.rest l.state l.at)
