use Rattle.std.proofs.Common.{◌+◌, ◌*◌, length, ◌≡◌}
use Rattle.cert_form.specs.Views.{mets_from, says}
use Rattle.cert_work.proofs.stated.pay_met.Given as goal

abbrev pub invariant-loop-next : goal.invariant-loop-next
invariant-loop-next l = l.left + 2 * length (says l.node).met ≡ l.fn.budget + 2 * length (mets_from l.node l.at)

abbrev pub decreases-loop-next : goal.decreases-loop-next
decreases-loop-next l = length (mets_from l.node l.at)
