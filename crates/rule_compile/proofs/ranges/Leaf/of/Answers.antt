use Rattle.std.proofs.Common.{refl, sym}
use Rattle.rule_compile.specs.inner.Stands.{by_rule}
use Rattle.rule_compile.proofs.SaysLaws.{none_by_length}
use Rattle.rule_compile.proofs.ranges.Leaf.of.Goals as goal

pub returns-then-is_empty-clause-leaf : goal.returns-then-is_empty-clause-leaf
returns-then-is_empty-clause-leaf c =
    by_rule c.placed-item.result (c.loop-placed.placed-index, c.loop-placed-test.true, sym c.placed-item.is)
    (none_by_length c.placed-item.result.rule.now.conds.items c.if-is_empty.ensures) refl
