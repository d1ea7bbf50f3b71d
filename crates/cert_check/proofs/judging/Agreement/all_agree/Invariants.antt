use Rattle.cert_check.specs.inner.Asked.{known_of, met_of, out_of}
use Rattle.cert_check.specs.inner.Alike.{FirstAgree}
use Rattle.cert_check.proofs.judging.Agreement.all_agree.Given as goal

abbrev pub invariant-loop-count : goal.invariant-loop-count
invariant-loop-count g l = FirstAgree l.self.profile.now (out_of l.self) (met_of l.self) (known_of l.self) l.self.word l.count
