use Rattle.std.proofs.Common.{◌≤◌}
use Rattle.differ.specs.OnCall.{ways_by_masks}
use Rattle.differ.proofs.ways.ways_by_masks.Given as goal

abbrev pub invariant-loop-place : goal.invariant-loop-place
invariant-loop-place l = l.ways ≤ ways_by_masks l.conds l.place
