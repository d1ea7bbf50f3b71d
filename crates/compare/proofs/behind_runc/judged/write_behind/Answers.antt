use Rattle.std.proofs.Common.{subst}
use Rattle.std.specs.Prelude.{Result}
use Rattle.maker.specs.declared.evidence.evidence.Evidence.{Evidence}
use Rattle.maker.specs.declared.make_error.MakeError.{MakeError}
use Rattle.compare.specs.Behind.{IsJudgedBehind}
use Rattle.compare.proofs.WriteLaws.{of_error, of_judged}
use Rattle.compare.proofs.behind_runc.judged.write_behind.Goals as goal

pub returns-in-Err-clause-found : goal.returns-in-Err-clause-found
returns-in-Err-clause-found g c = λ native bundle filter rest answered behind judged.
    of_error g.S.Sink.held g.S.Sink.failures c.args.sink.now c.refuse.new.sink native bundle filter rest answered c.refuse.result
    c.in-Err.make_error c.args.judged.now.whole
    (subst (λ (j : Result Evidence MakeError). IsJudgedBehind native bundle filter rest answered c.args.judged.now.whole j) c.in-Err.is judged)
    c.refuse.ensures

pub returns-in-Ok-clause-found : goal.returns-in-Ok-clause-found
returns-in-Ok-clause-found g c = λ native bundle filter rest answered behind judged.
    of_judged g.S.Sink.held g.S.Sink.failures c.args.sink.now c.write_judged.new.sink native bundle filter rest answered
    c.write_judged.result behind c.args.judged.now.whole c.args.judged.now.evidence c.in-Ok.field-0 c.in-Ok.is
    c.write_judged.ensures.found c.write_judged.ensures.own c.write_judged.ensures.told judged
