use Rattle.std.proofs.Common.{◌≡◌, ◌<◌, ℕ, length}
use Rattle.std.specs.Int.{bit_at}
use Rattle.cert_state.specs.inner.Sorted.{of_word}
use Rattle.cert_state.proofs.sorted.spoken.Given as goal

-- of a word whose bit is not set no literal has come
abbrev pub invariant-loop-literal : goal.invariant-loop-literal
invariant-loop-literal g l =
    (w : ℕ) → w < 16 → bit_at l.seen w ≡ 0 → of_word w (g.S.State.known l.state) ≡ of_word w (g.S.State.rest l.state l.at)

abbrev pub decreases-loop-literal : goal.decreases-loop-literal
decreases-loop-literal g l = length (g.S.State.rest l.state l.at)
