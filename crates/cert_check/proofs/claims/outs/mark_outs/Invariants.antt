use Rattle.std.proofs.Common.{length}
use Rattle.cert_form.specs.Views.{outs_from, says}
use Rattle.cert_check.specs.inner.Marked.{AreMarkedBut}
use Rattle.cert_check.proofs.claims.outs.mark_outs.Given as goal

abbrev pub invariant-loop-place : goal.invariant-loop-place
invariant-loop-place l = AreMarkedBut (says l.node).out l.marked (outs_from l.node l.at)

abbrev pub decreases-loop-place : goal.decreases-loop-place
decreases-loop-place l = length (outs_from l.node l.at)
