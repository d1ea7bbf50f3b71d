use Rattle.std.proofs.Common.{◌≡◌, ℕ, take}
use Rattle.differ.specs.Left.{IsRaised, are_met}
use Rattle.differ.proofs.left.parts_with.Given as goal

abbrev pub invariant-loop-part : goal.invariant-loop-part
invariant-loop-part l = (a b : ℕ → ℕ) → IsRaised l.index l.place l.bit a b → are_met l.kept.items a ≡ are_met (take l.part-index l.parts) b
