use Rattle.rule_compile.specs.inner.Stands.{AreSound}
use Rattle.rule_compile.proofs.shared.gather.Given as goal

abbrev pub invariant-loop-machine : goal.invariant-loop-machine
invariant-loop-machine l = AreSound l.blocks
