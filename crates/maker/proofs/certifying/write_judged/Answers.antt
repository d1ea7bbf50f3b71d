use Rattle.std.proofs.Common.{subst}
use Rattle.std.specs.Prelude.{Result}
use Rattle.maker.specs.declared.evidence.evidence.Evidence.{Evidence}
use Rattle.maker.specs.Certified.{IsJudgement}
use Rattle.maker.specs.declared.make_error.MakeError.{MakeError}
use Rattle.maker.proofs.certifying.write_judged.Goals as goal

pub returns-in-Ok-clause-found : goal.returns-in-Ok-clause-found
returns-in-Ok-clause-found g c = λ native bundle filter is.
    c.write_evidence.ensures.found native bundle filter
    (subst (λ (j : Result Evidence MakeError). IsJudgement native bundle filter j) c.in-Ok.is is)
