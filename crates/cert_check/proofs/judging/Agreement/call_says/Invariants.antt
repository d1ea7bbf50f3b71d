use Rattle.cert_check.proofs.CallLaws.{IsInside, height}
use Rattle.cert_check.proofs.judging.Agreement.call_says.Given as goal

abbrev pub invariant-loop-next : goal.invariant-loop-next
invariant-loop-next g l = IsInside l.self.profile.now.rules l.next

abbrev pub decreases-loop-next : goal.decreases-loop-next
decreases-loop-next g l = height l.next
