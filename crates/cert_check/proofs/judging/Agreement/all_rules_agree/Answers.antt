use Rattle.std.proofs.Common.{arith}
use Rattle.cert_check.proofs.judging.Agreement.all_rules_agree.Goals as goal

pub call_agrees-requires-clause-only : goal.call_agrees-requires-clause-only
call_agrees-requires-clause-only g c = c.number_range-least.ensures.only (omega (arith, c.if-least-greatest.true))
