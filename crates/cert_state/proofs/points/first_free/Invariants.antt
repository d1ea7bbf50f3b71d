use Rattle.std.proofs.Common.{◌<◌, ◌≤◌, ℕ, ◌+◌, ◌-◌}
use Rattle.cert_state.specs.inner.Window.{Excludes}
use Rattle.cert_state.proofs.points.first_free.Given as goal

abbrev pub invariant-loop-at : goal.invariant-loop-at
invariant-loop-at g l = record {
  from : l.low ≤ l.at;
  all : (u : ℕ) → l.low ≤ u → u < l.at → Excludes (g.S.State.known l.state) l.word u;
}

abbrev pub decreases-loop-at : goal.decreases-loop-at
decreases-loop-at g l = l.high + 1 - l.at
