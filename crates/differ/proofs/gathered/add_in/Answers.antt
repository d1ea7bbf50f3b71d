use Rattle.differ.specs.declared.direction.Direction.TheVariants.{Any}
use Rattle.differ.proofs.GatheredLaws.{found_any, found_itself, told_crowded, told_found}
use Rattle.differ.proofs.gathered.add_in.Goals as goal

pub returns-in_ok-add_found-in-Ok-Some-clause-told : goal.returns-in_ok-add_found-in-Ok-Some-clause-told
returns-in_ok-add_found-in-Ok-Some-clause-told c = λ h.
    let is = rw c.in-Ok-Some.field-0-is at c.in-Ok-Some.ensures in
    told_found c.args.first.now c.args.second.now Any _ _ _ c.in_ok-add_found-in-Ok-Some.ensures.found
    c.in_ok-add_found-in-Ok-Some.ensures.crowded (found_any c.args.first.now c.args.second.now _ _ c.args.direction _ is.found) h

pub returns-in_ok-add_found-in-Ok-Some-clause-told_in : goal.returns-in_ok-add_found-in-Ok-Some-clause-told_in
returns-in_ok-add_found-in-Ok-Some-clause-told_in c = λ h.
    let is = rw c.in-Ok-Some.field-0-is at c.in-Ok-Some.ensures in
    told_found c.args.first.now c.args.second.now c.args.direction _ _ _ c.in_ok-add_found-in-Ok-Some.ensures.found
    c.in_ok-add_found-in-Ok-Some.ensures.crowded (found_itself c.args.first.now c.args.second.now _ _ c.args.direction _ is.found) h

pub returns-in_ok-add_crowded-in-Err-TooMany-clause-told : goal.returns-in_ok-add_crowded-in-Err-TooMany-clause-told
returns-in_ok-add_crowded-in-Err-TooMany-clause-told c = λ h.
    let is = rw c.in-Err-TooMany.field-0-is at c.in-Err-TooMany.ensures in
    told_crowded c.args.first.now c.args.second.now Any _ _ _ c.in_ok-add_crowded-in-Err-TooMany.ensures.found
    c.in_ok-add_crowded-in-Err-TooMany.ensures.crowded is.unsettled h

pub returns-in_ok-add_crowded-in-Err-TooMany-clause-told_in : goal.returns-in_ok-add_crowded-in-Err-TooMany-clause-told_in
returns-in_ok-add_crowded-in-Err-TooMany-clause-told_in c = λ h.
    let is = rw c.in-Err-TooMany.field-0-is at c.in-Err-TooMany.ensures in
    told_crowded c.args.first.now c.args.second.now c.args.direction _ _ _ c.in_ok-add_crowded-in-Err-TooMany.ensures.found
    c.in_ok-add_crowded-in-Err-TooMany.ensures.crowded is.unsettled h
