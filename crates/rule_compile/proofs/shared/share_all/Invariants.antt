use Rattle.rule_compile.specs.inner.Runs.{AreIn}
use Rattle.rule_compile.proofs.shared.share_all.Given as goal

abbrev pub invariant-loop-numbers : goal.invariant-loop-numbers
invariant-loop-numbers l = AreIn l.code l.written.items

abbrev pub invariant-loop-one : goal.invariant-loop-one
invariant-loop-one l = AreIn l.code l.written.items

abbrev pub invariant-loop-place : goal.invariant-loop-place
invariant-loop-place l = AreIn l.code l.written.items
