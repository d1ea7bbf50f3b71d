use Rattle.std.proofs.Common.{◌+◌, length, ◌≡◌}
use Rattle.cert_form.specs.Views.{outs_from, says}
use Rattle.cert_work.specs.Work.{weights_at}
use Rattle.cert_work.proofs.stated.pay_out.Given as goal

abbrev pub invariant-loop-place : goal.invariant-loop-place
invariant-loop-place l = l.left + weights_at l.rules (says l.node).out ≡ l.fn.budget + weights_at l.rules (outs_from l.node l.at)

abbrev pub decreases-loop-place : goal.decreases-loop-place
decreases-loop-place l = length (outs_from l.node l.at)
