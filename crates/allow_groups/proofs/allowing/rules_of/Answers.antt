use Rattle.allow_groups.proofs.AllowLaws.{rules_step}
use Rattle.allow_groups.proofs.allowing.rules_of.Goals as goal

pub loop-call-preserved : goal.loop-call-preserved
loop-call-preserved c =
    rules_step c.args.calls.now c.loop-call.call-index _ c.loop-call.rules.items _ c.in_ok-rule.rule c.loop-call-test.true
    c.loop-call.invariant c.in_ok-rule.ensures.call c.in_ok-rule.ensures.allows c.in_ok-push.ensures.items
