use Rattle.std.proofs.Common.{subst}
use Rattle.std.specs.Prelude.{Result}
use Rattle.maker.specs.Certified.{IsJudgement}
use Rattle.maker.specs.declared.evidence.evidence.Evidence.{Evidence}
use Rattle.maker.specs.declared.evidence.evidence.Evidence.TheVariants.{Certificate, Refuting}
use Rattle.maker.specs.declared.make_error.MakeError.{MakeError}
use Rattle.aside.proofs.AsideLaws.{means_too, ok_of}
use Rattle.aside.proofs.judged.of_same.Goals as goal

pub returns-in-Ok-Certificate : goal.returns-in-Ok-Certificate
returns-in-Ok-Certificate c = λ native bundle same filter taken is_same judged.
    let at = ok_of c.args.judged c.in-Ok-Certificate.field-0 (Certificate c.in-Ok-Certificate.bytes) c.in-Ok-Certificate.is c.in-Ok-Certificate.field-0-is in
    means_too native bundle same filter c.args.aside.now taken is_same c.in-Ok-Certificate.bytes
    (subst (λ (j : Result Evidence MakeError). IsJudgement native bundle same j) at judged)

pub returns-in-Ok-Refuting : goal.returns-in-Ok-Refuting
returns-in-Ok-Refuting c = λ native bundle same filter taken is_same judged.
    let at = ok_of c.args.judged c.in-Ok-Refuting.field-0 (Refuting c.in-Ok-Refuting.found) c.in-Ok-Refuting.is c.in-Ok-Refuting.field-0-is in
    c.of_found.ensures native bundle same filter taken is_same
    (subst (λ (j : Result Evidence MakeError). IsJudgement native bundle same j) at judged)
