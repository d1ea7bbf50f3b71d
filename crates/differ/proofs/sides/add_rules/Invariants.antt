use Rattle.std.proofs.Common.{◌≡◌, ◌≤◌, ℕ, List, drop, length}
use Rattle.profile.specs.Rule.{argument_of}
use Rattle.differ.specs.Left.{side_says}
use Rattle.differ.specs.OnCall.{IsOfCall}
use Rattle.differ.specs.inner.Sides.{said_from}
use Rattle.differ.proofs.sides.add_rules.Given as goal

abbrev pub invariant-loop-place : goal.invariant-loop-place
invariant-loop-place l = record {
  within : l.place ≤ length l.rules;
  are : (d : ℕ) (r : List ℕ) → IsOfCall l.token l.nr r → side_says l.initial.side (argument_of r) ≡ d
      → side_says l.side (argument_of r) ≡ said_from d (drop l.place l.rules) r;
}

abbrev pub decreases-loop-place : goal.decreases-loop-place
decreases-loop-place l = l.place
