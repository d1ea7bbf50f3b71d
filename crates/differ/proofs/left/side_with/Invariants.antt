use Rattle.std.proofs.Common.{◌≡◌, ℕ, take}
use Rattle.differ.specs.Left.{IsRaised, side_says, verdict}
use Rattle.differ.proofs.left.side_with.Given as goal

abbrev pub invariant-loop-rest : goal.invariant-loop-rest
invariant-loop-rest l = (a b : ℕ → ℕ) → IsRaised l.index l.place l.bit a b → side_says l.next a ≡ verdict l.fn.last (take l.rest-index l.rules) b
