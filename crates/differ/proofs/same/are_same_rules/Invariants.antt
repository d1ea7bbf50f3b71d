use Rattle.std.proofs.Common.{◌≡◌, ℕ, take}
use Rattle.differ.specs.Left.{verdict}
use Rattle.differ.proofs.same.are_same_rules.Given as goal

abbrev pub invariant-loop-i : goal.invariant-loop-i
invariant-loop-i l = (last : ℕ) (a : ℕ → ℕ) → verdict last (take l.i l.these) a ≡ verdict last (take l.i l.those) a
