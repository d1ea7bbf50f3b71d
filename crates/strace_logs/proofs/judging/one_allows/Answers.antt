use Rattle.std.proofs.Common.{sym}
use Rattle.strace_logs.proofs.judging.one_allows.Goals as goal

pub returns-then-allows : goal.returns-then-allows
returns-then-allows c = λ _. (
  c.rule-item.result,
  (c.loop-rule.rule-index, c.loop-rule-test.true, sym c.rule-item.is),
  c.allows.ensures.word c.if-allows.true,
  c.allows.ensures.for_each c.if-allows.true,
)
