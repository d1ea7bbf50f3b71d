use Rattle.profile.proofs.Walks.{height}
use Rattle.rule_compile.specs.inner.Stands.{AreThoseBehind}
use Rattle.rule_compile.proofs.ranges.rules_for.Given as goal

abbrev pub decreases-loop-next : goal.decreases-loop-next
decreases-loop-next l = height l.next

abbrev pub invariant-loop-next : goal.invariant-loop-next
invariant-loop-next l = AreThoseBehind l.profile.rules l.token l.number l.next l.own.items
