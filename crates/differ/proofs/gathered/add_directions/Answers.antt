use Rattle.differ.specs.Differences.{IsAnswered}
use Rattle.differ.specs.declared.direction.Direction.{Direction}
use Rattle.differ.specs.declared.direction.Direction.TheVariants.{Any, More, Less}
use Rattle.differ.proofs.GatheredLaws.{answered_stays, extends_found, extends_trans, found_answers, found_itself, in_each, told_found}
use Rattle.differ.proofs.gathered.add_directions.Goals as goal

pub returns-then-less-clause-answered : goal.returns-then-less-clause-answered
returns-then-less-clause-answered c =
    let p = c.args.first.now in
    let q = c.args.second.now in
    let call = c.args.call.now in
    in_each (λ d. IsAnswered p q c.add_in-2.new.told call.token call.nr d)
    (answered_stays p q _ _ call.token call.nr Less c.in_ok-more.ensures.extends c.in_ok-less.ensures.answered) c.in_ok-more.ensures.answered
    (answered_stays p q _ _ call.token call.nr Any c.in_ok-more.ensures.extends (c.in_ok-less.ensures.some c.if-less.true))

pub returns-then-more-clause-answered : goal.returns-then-more-clause-answered
returns-then-more-clause-answered c =
    let p = c.args.first.now in
    let q = c.args.second.now in
    let call = c.args.call.now in
    in_each (λ d. IsAnswered p q c.add_in-2.new.told call.token call.nr d)
    (answered_stays p q _ _ call.token call.nr Less c.in_ok-more.ensures.extends c.in_ok-less.ensures.answered) c.in_ok-more.ensures.answered
    (c.in_ok-more.ensures.some c.if-more.true)

pub returns-clause-told : goal.returns-clause-told
returns-clause-told c = λ h.
    told_found c.args.first.now c.args.second.now Any _ _ c.args.found c.in_ok-add_found.ensures.found c.in_ok-add_found.ensures.crowded
    (found_itself c.args.first.now c.args.second.now _ _ Any c.args.found c.requires) (c.in_ok-more.ensures.told (c.in_ok-less.ensures.told h))

pub returns-clause-extends : goal.returns-clause-extends
returns-clause-extends c =
    extends_trans _ _ _ c.in_ok-less.ensures.extends (extends_trans _ _ _ c.in_ok-more.ensures.extends
    (extends_found _ _ c.args.found c.in_ok-add_found.ensures.found c.in_ok-add_found.ensures.crowded))

pub returns-clause-answered : goal.returns-clause-answered
returns-clause-answered c =
    let p = c.args.first.now in
    let q = c.args.second.now in
    let call = c.args.call.now in
    let last = extends_found c.add_in-2.new.told c.add_found.new.told c.args.found c.in_ok-add_found.ensures.found c.in_ok-add_found.ensures.crowded in
    in_each (λ d. IsAnswered p q c.add_found.new.told call.token call.nr d)
    (answered_stays p q _ _ call.token call.nr Less (extends_trans _ _ _ c.in_ok-more.ensures.extends last) c.in_ok-less.ensures.answered)
    (answered_stays p q _ _ call.token call.nr More last c.in_ok-more.ensures.answered)
    (found_answers p q call.token call.nr Any c.add_in-2.new.told c.add_found.new.told c.args.found c.in_ok-add_found.ensures.found c.requires)
