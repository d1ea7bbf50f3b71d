use Rattle.std.proofs.Common.{◌≡◌, ◌↔◌, ◌<◌, ◌⊎◌, ℕ, length}
use Rattle.std.specs.Int.{bit_at}
use Rattle.cert_state.specs.inner.Window.{ExcludesAt}
use Rattle.cert_state.proofs.points.excluded_near.Given as goal

-- what is excluded is seen, or left to see
abbrev pub invariant-loop-literal : goal.invariant-loop-literal
invariant-loop-literal g l =
    (k : ℕ) → k < 64
    → ExcludesAt (g.S.State.known l.state) l.word l.up l.from k
    ↔ ((bit_at l.seen k ≡ 1) ⊎ ExcludesAt (g.S.State.rest l.state l.at) l.word l.up l.from k)

abbrev pub decreases-loop-literal : goal.decreases-loop-literal
decreases-loop-literal g l = length (g.S.State.rest l.state l.at)
