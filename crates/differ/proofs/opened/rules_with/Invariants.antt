use Rattle.differ.specs.OnCall.{is_met_at}
use Rattle.std.proofs.Common.{◌≡◌, filter, take}
use Rattle.differ.proofs.opened.rules_with.Given as goal

abbrev pub invariant-loop-rule : goal.invariant-loop-rule
invariant-loop-rule l = l.list.items ≡ filter (is_met_at l.index l.value) (take l.rule-index l.rules)
