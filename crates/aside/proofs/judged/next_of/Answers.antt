use Rattle.std.proofs.Common.{subst, sym}
use Rattle.std.specs.Prelude.{IfSome, Result}
use Rattle.maker.specs.declared.evidence.evidence.Evidence.{Evidence}
use Rattle.maker.specs.declared.make_error.MakeError.{MakeError}
use Rattle.aside.specs.inner.Lead.{Leads}
use Rattle.aside.proofs.judged.next_of.Goals as goal

pub returns-in-Ok : goal.returns-in-Ok
returns-in-Ok c =
    subst (λ (j : Result Evidence MakeError). IfSome c.next_in.result (Leads c.args.family c.args.leave j)) (sym c.in-Ok.is) c.next_in.ensures
