use Rattle.std.proofs.Common.{◌≡◌, ℕ, List, ◌∷◌, take}
use Rattle.profile.specs.Rule.{argument_of}
use Rattle.profile.specs.Said.{said}
use Rattle.differ.specs.Left.{side_says}
use Rattle.differ.specs.OnCall.{IsOfCall}
use Rattle.together.specs.Together.{each_said}
use Rattle.together.specs.Word.{word_of}
use Rattle.together.proofs.product.together_with.Given as goal

abbrev pub invariant-loop-profile : goal.invariant-loop-profile
invariant-loop-profile l = (r : List ℕ) → IsOfCall l.call.token l.call.nr r
    → side_says l.made (argument_of r) ≡ word_of l.way (said l.first r ∷ each_said (take l.profile-index l.others) r)
