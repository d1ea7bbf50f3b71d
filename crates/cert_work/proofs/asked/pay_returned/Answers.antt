use Rattle.std.proofs.Common.{refl, subst}
use Rattle.cert_form.specs.declared.lent.NodeView.{NodeView}
use Rattle.cert_form.specs.declared.node.Kind.TheVariants.{Return}
use Rattle.cert_form.specs.Views.{says}
use Rattle.cert_work.specs.Work.{AreAsked, IsAsked, weights_between}
use Rattle.cert_work.proofs.WorkLaws.{pays_one}
use Rattle.cert_work.proofs.asked.pay_returned.Goals as goal

pub returns : goal.returns
returns c =
    let low = c.asked_of-range.result.0 in
    let high = c.asked_of-range.result.1 in
    let asked : AreAsked (says c.args.node.now).known low high =
    subst (λ (node : NodeView). AreAsked (says node).known low high) c.of-facts.ensures c.asked_of-range.ensures in
    pays_one (IsAsked c.args.rules.now (says c.args.node.now).known Return) c.args.budget (weights_between low high c.args.rules.now)
    c.pay_between.result (low, high, asked, refl) c.pay_between.ensures
