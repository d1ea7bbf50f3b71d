use Rattle.std.proofs.Common.{◌≡◌, ℕ, take}
use Rattle.std.specs.List.{list_all}
use Rattle.profile.specs.Said.{meets}
use Rattle.differ.specs.Left.{are_met}
use Rattle.widths.specs.inner.Read.{AreRead}
use Rattle.widths.proofs.unread_bits.sides.parts_of.Given as goal

abbrev pub invariant-loop-cond : goal.invariant-loop-cond
invariant-loop-cond l = (a b : ℕ → ℕ) → AreRead l.reads a b
    → are_met l.parts.items a ≡ list_all (λ c. meets c (b c.index)) (take l.cond-index l.conds)
