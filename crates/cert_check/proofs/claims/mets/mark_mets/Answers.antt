use Rattle.std.proofs.Common.{arith}
use Rattle.cert_form.specs.Views.{mets_from, says}
use Rattle.cert_check.proofs.MetsLaws.{none_marked, one_marked, all_marked}
use Rattle.cert_check.proofs.claims.mets.mark_mets.Goals as goal

pub loop-place-init : goal.loop-place-init
loop-place-init c =
    none_marked (says c.args.node.now).met c.args.marked.now (mets_from c.args.node.now c.first_met-at.result) c.first_met-at.ensures c.requires

pub loop-place-preserved : goal.loop-place-preserved
loop-place-preserved c =
    one_marked (says c.args.node.now).met c.loop-place.marked c.mark.new.marked (mets_from c.args.node.now c.loop-place.at) c.in-Some.place
    (mets_from c.args.node.now c.in-Some.next) c.in-Some.ensures (omega arith) c.loop-place.invariant c.mark.ensures

pub returns : goal.returns
returns c =
    all_marked (says c.args.node.now).met c.loop-place.marked (mets_from c.args.node.now c.loop-place.at) c.in_default.ensures c.loop-place.invariant
