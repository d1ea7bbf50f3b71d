use Rattle.std.proofs.Common.{sym, subst}
use Rattle.std.specs.Prelude.{IfSome, None, Option}
use Rattle.std.proofs.lemmas.List.{get_or-replicate}
use Rattle.cert_form.specs.Reading.{claims_left}
use Rattle.cert_check.specs.declared.agreed.Answer.{Answer}
use Rattle.cert_check.specs.inner.Agreed.{AgreesOn}
use Rattle.cert_check.proofs.agreed.Agreed.none.Goals as goal

pub returns : goal.returns
returns c = λ policy bytes k d lt.
    subst (λ (o : Option Answer). IfSome o (λ answer. AgreesOn policy answer.word (claims_left bytes answer.chain)))
    (sym (get_or-replicate 64 k None d lt)) tt
