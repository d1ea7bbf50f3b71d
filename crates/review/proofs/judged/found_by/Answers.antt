use Rattle.review.proofs.OpposedLaws.{is_open, is_undecided, refuses_all}
use Rattle.review.proofs.judged.found_by.Goals as goal

pub returns-in-Ok-None : goal.returns-in-Ok-None
returns-in-Ok-None c =
    refuses_all c.args.profile.now c.args.asked.now c.args.rule.now c.args.other.now c.token-token.result c.token-token.ensures c.requires
    (rw c.in-Ok-None.field-0-is at c.in-Ok-None.ensures.none)

pub returns-in-Err-TooMany : goal.returns-in-Err-TooMany
returns-in-Err-TooMany c =
    is_undecided c.args.profile.now c.args.asked.now c.args.rule.now c.args.other.now c.token-token.result c.token-token.ensures c.requires
    (rw c.in-Err-TooMany.field-0-is at c.in-Err-TooMany.ensures.unsettled)

pub returns-in_ok-call-in-Ok-Some : goal.returns-in_ok-call-in-Ok-Some
returns-in_ok-call-in-Ok-Some c =
    is_open c.args.profile.now c.args.asked.now c.args.rule.now c.args.other.now c.token-token.result c.in-Ok-Some.found c.in_ok-call-in-Ok-Some.call
    c.token-token.ensures c.requires.is_rule (rw c.in-Ok-Some.field-0-is at c.in-Ok-Some.ensures.found) c.in_ok-call-in-Ok-Some.ensures.matches
    c.in_ok-call-in-Ok-Some.ensures.call
