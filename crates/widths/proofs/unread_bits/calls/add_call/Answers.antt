use Rattle.widths.proofs.CallLaws.{crowded_answers, extends_crowded, extends_found, found_answers, told_crowded, told_found}
use Rattle.widths.proofs.unread_bits.calls.add_call.Goals as goal

pub returns-in_ok-add_found-in-Ok-Some-clause-told : goal.returns-in_ok-add_found-in-Ok-Some-clause-told
returns-in_ok-add_found-in-Ok-Some-clause-told c = λ h.
    let is = rw c.in-Ok-Some.field-0-is at c.in-Ok-Some.ensures in
    told_found c.args.profile.now c.args.direction _ _ _ c.in_ok-add_found-in-Ok-Some.ensures.found c.in_ok-add_found-in-Ok-Some.ensures.crowded is.past.is_unlike h

pub returns-in_ok-add_found-in-Ok-Some-clause-extends : goal.returns-in_ok-add_found-in-Ok-Some-clause-extends
returns-in_ok-add_found-in-Ok-Some-clause-extends c =
    extends_found _ _ _ c.in_ok-add_found-in-Ok-Some.ensures.found c.in_ok-add_found-in-Ok-Some.ensures.crowded

pub returns-in_ok-add_found-in-Ok-Some-clause-answered : goal.returns-in_ok-add_found-in-Ok-Some-clause-answered
returns-in_ok-add_found-in-Ok-Some-clause-answered c =
    let is = rw c.in-Ok-Some.field-0-is at c.in-Ok-Some.ensures in
    found_answers c.args.profile.now c.args.direction c.args.call.now.token c.args.call.now.nr c.args.all.now c.add_found.new.all _ c.in_ok-add_found-in-Ok-Some.ensures.found is.past

pub returns-in_ok-add_crowded-in-Err-TooMany-clause-told : goal.returns-in_ok-add_crowded-in-Err-TooMany-clause-told
returns-in_ok-add_crowded-in-Err-TooMany-clause-told c = λ h.
    let is = rw c.in-Err-TooMany.field-0-is at c.in-Err-TooMany.ensures in
    told_crowded c.args.profile.now c.args.direction _ _ _ c.in_ok-add_crowded-in-Err-TooMany.ensures.found c.in_ok-add_crowded-in-Err-TooMany.ensures.crowded
    is.unsettled h

pub returns-in_ok-add_crowded-in-Err-TooMany-clause-extends : goal.returns-in_ok-add_crowded-in-Err-TooMany-clause-extends
returns-in_ok-add_crowded-in-Err-TooMany-clause-extends c =
    extends_crowded _ _ _ c.in_ok-add_crowded-in-Err-TooMany.ensures.found c.in_ok-add_crowded-in-Err-TooMany.ensures.crowded

pub returns-in_ok-add_crowded-in-Err-TooMany-clause-answered : goal.returns-in_ok-add_crowded-in-Err-TooMany-clause-answered
returns-in_ok-add_crowded-in-Err-TooMany-clause-answered c =
    crowded_answers c.args.profile.now c.args.direction c.args.all.now c.add_crowded.new.all c.args.call.now c.in_ok-add_crowded-in-Err-TooMany.ensures.crowded
