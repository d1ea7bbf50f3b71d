use Rattle.std.proofs.Common.{◌+◌, length, ◌≡◌}
use Rattle.cert_form.specs.Reading.{literals_left}
use Rattle.cert_form.specs.Views.{says}
use Rattle.cert_work.proofs.stated.pay_known.Given as goal

abbrev pub invariant-loop-next : goal.invariant-loop-next
invariant-loop-next l =
    l.left + length (says l.node).known ≡ l.fn.budget + length (literals_left l.node.bytes.now l.node.at l.at)

abbrev pub decreases-loop-next : goal.decreases-loop-next
decreases-loop-next l = length (literals_left l.node.bytes.now l.node.at l.at)
