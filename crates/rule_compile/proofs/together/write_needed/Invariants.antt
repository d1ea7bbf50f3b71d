use Rattle.rule_compile.specs.inner.Runs.{AreIn}
use Rattle.rule_compile.proofs.together.write_needed.Given as goal

abbrev pub invariant-loop-block : goal.invariant-loop-block
invariant-loop-block l = AreIn l.code l.written.items
