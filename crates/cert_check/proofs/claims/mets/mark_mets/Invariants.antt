use Rattle.std.proofs.Common.{length}
use Rattle.cert_form.specs.Views.{mets_from, says}
use Rattle.cert_check.specs.inner.Marked.{AreMetMarkedBut}
use Rattle.cert_check.proofs.claims.mets.mark_mets.Given as goal

abbrev pub invariant-loop-place : goal.invariant-loop-place
invariant-loop-place l = AreMetMarkedBut (says l.node).met l.marked (mets_from l.node l.at)

abbrev pub decreases-loop-place : goal.decreases-loop-place
decreases-loop-place l = length (mets_from l.node l.at)
