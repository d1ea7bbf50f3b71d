use Rattle.cert_check.specs.inner.Asked.{known_of, met_of, out_of}
use Rattle.cert_check.specs.inner.Judged.{IsAnswered}
use Rattle.cert_check.proofs.CallLaws.{HasCome, IsInside, height}
use Rattle.cert_check.proofs.judging.Agreement.call_agrees.Given as goal

abbrev pub invariant-loop-next : goal.invariant-loop-next
invariant-loop-next g l = record {
  inside : IsInside l.self.profile.now.rules l.next;
  walk : HasCome (out_of l.self) (met_of l.self) (known_of l.self) l.self.word l.fn.arch l.self.profile.now.rules l.nr l.next l.others;
  last : IsAnswered (known_of l.self) l.last;
}

abbrev pub decreases-loop-next : goal.decreases-loop-next
decreases-loop-next g l = height l.next
