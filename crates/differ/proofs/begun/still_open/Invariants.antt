use Rattle.std.proofs.Common.{take}
use Rattle.differ.specs.inner.Branch.{Narrows}
use Rattle.differ.proofs.begun.still_open.Given as goal

abbrev pub invariant-loop-cond : goal.invariant-loop-cond
invariant-loop-cond l = Narrows l.high l.rest (take l.cond-index l.conds) l.kept.items
