use Rattle.std.proofs.Common.{◌≡◌, ℕ, ◌∷◌, [], take}
use Rattle.differ.specs.Left.{side_says, verdict}
use Rattle.together.specs.Word.{word_of}
use Rattle.together.proofs.product.times.Given as goal

abbrev pub invariant-loop-rest : goal.invariant-loop-rest
invariant-loop-rest l = (a : ℕ → ℕ)
    → side_says l.made a ≡ word_of l.way (side_says l.one a ∷ verdict l.other.last (take l.rest-index l.other.rules.items) a ∷ [])
