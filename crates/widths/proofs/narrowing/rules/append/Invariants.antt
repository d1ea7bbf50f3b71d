use Rattle.std.proofs.Common.{◌≡◌, ◌++◌, take}
use Rattle.widths.proofs.narrowing.rules.append.Given as goal

abbrev pub invariant-loop-rule : goal.invariant-loop-rule
invariant-loop-rule l = l.rules.items ≡ l.initial.rules.items ++ take l.rule-index l.more
