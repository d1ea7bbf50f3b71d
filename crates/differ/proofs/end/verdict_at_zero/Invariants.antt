use Rattle.std.proofs.Common.{◌≡◌, take}
use Rattle.differ.specs.Left.{verdict}
use Rattle.differ.proofs.end.verdict_at_zero.Given as goal

abbrev pub invariant-loop-rest : goal.invariant-loop-rest
invariant-loop-rest l = l.word ≡ verdict l.fn.last (take l.rest-index l.rules) (λ i. 0)
