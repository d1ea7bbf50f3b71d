use Rattle.std.proofs.Common.{◌≤◌, take}
use Rattle.differ.specs.OnCall.{comparisons}
use Rattle.differ.proofs.ways.comparisons.Given as goal

abbrev pub invariant-loop-cond : goal.invariant-loop-cond
invariant-loop-cond l = record {
  few : l.count ≤ l.cond-index;
  are : l.count ≤ comparisons (take l.cond-index l.conds);
}
