use Rattle.std.proofs.Common.{◌≤◌, take}
use Rattle.differ.specs.OnCall.{masks}
use Rattle.differ.proofs.ways.masks.Given as goal

abbrev pub invariant-loop-cond : goal.invariant-loop-cond
invariant-loop-cond l = record {
  few : l.count ≤ l.cond-index;
  are : l.count ≤ masks (take l.cond-index l.conds);
}
