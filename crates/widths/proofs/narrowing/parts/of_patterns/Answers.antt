use Rattle.std.proofs.Common.{take, arith, rules}
use Rattle.widths.proofs.StepLaws.{patterns_next}
use Rattle.widths.proofs.narrowing.parts.of_patterns.Goals as goal

pub loop-pattern-preserved : goal.loop-pattern-preserved
loop-pattern-preserved c =
    patterns_next c.args.index c.args.patterns.now c.loop-pattern.pattern-index c.add.new.list.items _
    (omega (arith, c.loop-pattern-test.true)) (search rules)
    (c.in_ok-add.ensures (take c.loop-pattern.pattern-index c.args.patterns.now) c.loop-pattern.invariant)
