use Rattle.std.proofs.Common.{take}
use Rattle.std.specs.List.{All}
use Rattle.differ.specs.inner.Branch.{Overlooks}
use Rattle.differ.proofs.begun.look_at.Given as goal

abbrev pub invariant-loop-cond : goal.invariant-loop-cond
invariant-loop-cond l = All (Overlooks l.place) (take l.cond-index l.conds)
