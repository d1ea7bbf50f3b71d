use Rattle.std.proofs.Common.{sym, subst}
use Rattle.cert_form.specs.Views.{outs_from, says}
use Rattle.cert_check.specs.inner.Marked.{AreMarkedBut}
use Rattle.cert_check.proofs.OutsLaws.{none_marked, one_marked, all_marked}
use Rattle.cert_check.proofs.claims.outs.mark_outs.Goals as goal

pub loop-place-init : goal.loop-place-init
loop-place-init c =
    let rest = outs_from c.args.node.now c.first_out-at.result in
    subst (λ table. AreMarkedBut (says c.args.node.now).out table rest) (sym c.requires)
    (none_marked (says c.args.node.now).out rest c.first_out-at.ensures)

pub loop-place-preserved : goal.loop-place-preserved
loop-place-preserved c =
    one_marked (says c.args.node.now).out c.loop-place.marked c.mark.new.marked (outs_from c.args.node.now c.loop-place.at) c.in-Some.place
    (outs_from c.args.node.now c.in-Some.next) c.in-Some.ensures c.loop-place.invariant c.mark.ensures

pub returns : goal.returns
returns c =
    all_marked (says c.args.node.now).out c.loop-place.marked (outs_from c.args.node.now c.loop-place.at) c.in_default.ensures c.loop-place.invariant
