use Rattle.std.proofs.Common.{length}
use Rattle.rule_compile.specs.inner.Left.{AreRules}
use Rattle.rule_compile.proofs.LeftLaws.{IsPart}
use Rattle.rule_compile.proofs.remaining.left.Given as goal

abbrev pub invariant-loop-rest : goal.invariant-loop-rest
invariant-loop-rest l = AreRules l.rules → IsPart l.rules l.rest l.questions.asked.items l.subject l.number

abbrev pub decreases-loop-rest : goal.decreases-loop-rest
decreases-loop-rest l = length l.rest
