use Rattle.std.proofs.Common.{inl}
use Rattle.differ.specs.declared.direction.Direction.TheVariants.{Any}
use Rattle.differ.proofs.GatheredLaws.{like_any, told_crowded}
use Rattle.differ.proofs.gathered.add_call.Goals as goal

pub returns-in-Ok-None-clause-answered : goal.returns-in-Ok-None-clause-answered
returns-in-Ok-None-clause-answered c = λ d.
    let is = rw c.in-Ok-None.field-0-is at c.in-Ok-None.ensures in
    inl (like_any c.args.first.now c.args.second.now _ _ d is.none)

pub returns-in_ok-add_crowded-in-Err-TooMany-clause-told : goal.returns-in_ok-add_crowded-in-Err-TooMany-clause-told
returns-in_ok-add_crowded-in-Err-TooMany-clause-told c = λ h.
    let is = rw c.in-Err-TooMany.field-0-is at c.in-Err-TooMany.ensures in
    told_crowded c.args.first.now c.args.second.now Any _ _ _ c.in_ok-add_crowded-in-Err-TooMany.ensures.found
    c.in_ok-add_crowded-in-Err-TooMany.ensures.crowded is.unsettled h
