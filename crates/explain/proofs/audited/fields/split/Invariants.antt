-- No byte so far is this one.
use Rattle.std.proofs.Common.{take}
use Rattle.texts.proofs.Splits.{Lacks}
use Rattle.explain.proofs.audited.fields.split.Given as goal

abbrev pub invariant-loop-at : goal.invariant-loop-at
invariant-loop-at l = Lacks l.byte (take l.at l.line)
