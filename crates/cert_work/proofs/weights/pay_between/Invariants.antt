use Rattle.std.proofs.Common.{◌+◌, ◌≡◌, drop}
use Rattle.cert_work.specs.Work.{weights_between}
use Rattle.cert_work.proofs.weights.pay_between.Given as goal

abbrev pub invariant-loop-rule : goal.invariant-loop-rule
invariant-loop-rule l =
    l.left + weights_between l.range.0 l.range.1 l.rules ≡ l.fn.budget + weights_between l.range.0 l.range.1 (drop l.rule-index l.rules)
