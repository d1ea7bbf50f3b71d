use Rattle.review.proofs.ReviewedLaws.{standing_step}
use Rattle.review.proofs.member.judge_members.Goals as goal

pub loop-name-preserved : goal.loop-name-preserved
loop-name-preserved c =
    standing_step c.args.profile.now c.args.names.now c.loop-name.name-index _ c.loop-name.list.items _ c.in_ok-member.member
    c.loop-name-test.true c.loop-name.invariant c.in_ok-member.ensures.name c.in_ok-member.ensures.standing c.in_ok-push.ensures.items
