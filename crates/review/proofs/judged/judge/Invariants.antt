use Rattle.std.proofs.Common.{take}
use Rattle.review.specs.Judged.{AreJudged}
use Rattle.review.proofs.judged.judge.Given as goal

abbrev pub invariant-loop-asked : goal.invariant-loop-asked
invariant-loop-asked l = AreJudged l.profile (take l.asked-index l.list) l.judged.items
