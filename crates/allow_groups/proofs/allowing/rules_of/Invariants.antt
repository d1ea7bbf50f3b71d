use Rattle.std.proofs.Common.{take}
use Rattle.allow_groups.specs.Allowing.{AreRulesOf}
use Rattle.allow_groups.proofs.allowing.rules_of.Given as goal

abbrev pub invariant-loop-call : goal.invariant-loop-call
invariant-loop-call l = AreRulesOf (take l.call-index l.calls) l.rules.items
