use Rattle.std.proofs.Common.{sym, subst}
use Rattle.cert_form.specs.declared.node.Kind.{Kind}
use Rattle.cert_form.specs.Views.{says}
use Rattle.cert_work.specs.Work.{IsAsked, PaysOne}
use Rattle.cert_work.proofs.asked.pay_asked.Goals as goal

pub returns-in-Return : goal.returns-in-Return
returns-in-Return c =
    subst (λ (kind : Kind). PaysOne c.args.budget (IsAsked c.args.rules.now (says c.args.node.now).known kind) c.pay_returned.result)
    (sym c.in-Return.is) c.pay_returned.ensures
