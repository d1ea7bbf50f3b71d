use Rattle.std.proofs.Common.{◌<◌, ◌≤◌, ℕ}
use Rattle.cert_state.specs.inner.Window.{Excludes}
use Rattle.cert_state.proofs.points.last_free.Given as goal

abbrev pub invariant-loop-word : goal.invariant-loop-word
invariant-loop-word g l = record {
  from : l.low ≤ l.end;
  to : l.end ≤ l.high;
  all : (u : ℕ) → l.end < u → u ≤ l.high → Excludes (g.S.State.known l.state) l.word u;
}

abbrev pub decreases-loop-word : goal.decreases-loop-word
decreases-loop-word g l = l.end
