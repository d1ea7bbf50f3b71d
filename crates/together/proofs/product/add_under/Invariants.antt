use Rattle.std.proofs.Common.{◌≡◌, ℕ, ◌∷◌, [], take}
use Rattle.std.specs.Prelude.{if◌then◌else◌}
use Rattle.differ.specs.Left.{are_met, side_says, verdict}
use Rattle.together.specs.Word.{word_of}
use Rattle.together.proofs.product.add_under.Given as goal

abbrev pub invariant-loop-rest : goal.invariant-loop-rest
invariant-loop-rest l = (a : ℕ → ℕ) → side_says l.made a
    ≡ (if are_met l.parts a then word_of l.way (verdict l.one.last (take l.rest-index l.one.rules.items) a ∷ l.word ∷ []) else side_says l.initial.made a)
