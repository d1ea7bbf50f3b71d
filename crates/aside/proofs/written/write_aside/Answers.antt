use Rattle.std.proofs.Common.{subst}
use Rattle.std.specs.Prelude.{Result}
use Rattle.maker.specs.declared.evidence.evidence.Evidence.{Evidence}
use Rattle.maker.specs.declared.make_error.MakeError.{MakeError}
use Rattle.aside.specs.Judged.{IsJudgedBut}
use Rattle.aside.proofs.written.write_aside.Goals as goal

pub returns-in-Ok-clause-but : goal.returns-in-Ok-clause-but
returns-in-Ok-clause-but g c = λ native bundle filter answered is judged.
    c.write_evidence.ensures.but native bundle filter answered is
    (subst (λ (j : Result Evidence MakeError). IsJudgedBut native bundle filter answered c.args.but.now.aside.items j) c.in-Ok.is judged)
