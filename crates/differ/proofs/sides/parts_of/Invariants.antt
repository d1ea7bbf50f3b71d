use Rattle.std.proofs.Common.{◌≡◌, ◌<◌, ◌^◌, ℕ, take}
use Rattle.std.specs.List.{list_all}
use Rattle.profile.specs.Said.{meets}
use Rattle.differ.specs.Left.{are_met}
use Rattle.differ.proofs.sides.parts_of.Given as goal

abbrev pub invariant-loop-cond : goal.invariant-loop-cond
invariant-loop-cond l = (a : ℕ → ℕ) → ((i : ℕ) → a i < 2 ^ 64)
    → are_met l.parts.items a ≡ list_all (λ c. meets c (a c.index)) (take l.cond-index l.conds)
