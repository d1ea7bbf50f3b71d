use Rattle.review.proofs.JudgedLaws.{judged_step}
use Rattle.review.proofs.judged.judge.Goals as goal

pub loop-asked-preserved : goal.loop-asked-preserved
loop-asked-preserved c =
    judged_step c.args.profile.now c.args.list.now c.loop-asked.asked-index _ c.loop-asked.judged.items _ c.in_ok-answer.answer
    c.loop-asked-test.true c.loop-asked.invariant c.in_ok-answer.ensures c.in_ok-push.ensures.items
