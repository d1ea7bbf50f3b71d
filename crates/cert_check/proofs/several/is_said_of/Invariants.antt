use Rattle.machines.specs.Arch.{token_of}
use Rattle.cert_check.proofs.CallLaws.{IsInside, height}
use Rattle.cert_check.proofs.SeveralLaws.{HasPassed}
use Rattle.cert_check.proofs.several.is_said_of.Given as goal

abbrev pub invariant-loop-next : goal.invariant-loop-next
invariant-loop-next l = record {
  inside : IsInside l.profile.rules l.next;
  walk : HasPassed l.word (token_of l.fn.arch) l.nr l.profile.rules l.next;
}

abbrev pub decreases-loop-next : goal.decreases-loop-next
decreases-loop-next l = height l.next
