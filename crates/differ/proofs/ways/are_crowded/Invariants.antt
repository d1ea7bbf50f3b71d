use Rattle.std.proofs.Common.{◌≤◌}
use Rattle.differ.specs.OnCall.{ways_of}
use Rattle.differ.proofs.ways.are_crowded.Given as goal

abbrev pub invariant-loop-index : goal.invariant-loop-index
invariant-loop-index l = l.ways ≤ ways_of l.first l.second l.token l.nr l.index
