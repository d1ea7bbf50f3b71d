-- No byte so far is this one.
use Rattle.std.proofs.Common.{take}
use Rattle.texts.proofs.Splits.{Lacks}
use Rattle.json_lines.proofs.splitting.split.Given as goal

abbrev pub invariant-loop-at : goal.invariant-loop-at
invariant-loop-at l = Lacks l.byte (take l.at l.text)
