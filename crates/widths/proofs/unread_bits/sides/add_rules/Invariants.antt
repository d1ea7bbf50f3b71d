use Rattle.std.proofs.Common.{◌≡◌, ◌≤◌, ℕ, List, drop, length}
use Rattle.profile.specs.Rule.{argument_of}
use Rattle.differ.specs.Left.{side_says}
use Rattle.differ.specs.OnCall.{IsOfCall}
use Rattle.differ.specs.inner.Sides.{said_from}
use Rattle.widths.specs.inner.Read.{AreRead, seen_of}
use Rattle.widths.proofs.unread_bits.sides.add_rules.Given as goal

abbrev pub invariant-loop-place : goal.invariant-loop-place
invariant-loop-place l = record {
  within : l.place ≤ length l.rules;
  are : (d : ℕ) (r s : List ℕ) → IsOfCall l.token l.nr s → AreRead l.reads (argument_of r) (argument_of s)
      → side_says l.initial.side (argument_of r) ≡ seen_of l.direction d → side_says l.side (argument_of r) ≡ seen_of l.direction (said_from d (drop l.place l.rules) s);
}

abbrev pub decreases-loop-place : goal.decreases-loop-place
decreases-loop-place l = l.place
