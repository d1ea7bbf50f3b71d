use Rattle.differ.specs.Differences.{IsCovered}
use Rattle.differ.specs.declared.direction.Direction.TheVariants.{More, Less}
use Rattle.differ.proofs.GatheredLaws.{covered_stays, extends_trans, in_each}
use Rattle.differ.proofs.gathered.add_rest.Goals as goal

pub returns-clause-extends : goal.returns-clause-extends
returns-clause-extends c =
    extends_trans _ _ _ c.in_ok-add_other.ensures.extends (extends_trans _ _ _ c.in_ok-add_other-2.ensures.extends c.in_ok-add_other-3.ensures.extends)

pub returns-clause-covered : goal.returns-clause-covered
returns-clause-covered c =
    let p = c.args.first.now in
    let q = c.args.second.now in
    let call = c.args.call.now in
    in_each (λ d. IsCovered p q c.add_other-3.new.told call.token call.nr d)
    (covered_stays p q _ _ call.token call.nr Less (extends_trans _ _ _ c.in_ok-add_other-2.ensures.extends c.in_ok-add_other-3.ensures.extends)
    c.in_ok-add_other.ensures.covered)
    (covered_stays p q _ _ call.token call.nr More c.in_ok-add_other-3.ensures.extends c.in_ok-add_other-2.ensures.covered)
    c.in_ok-add_other-3.ensures.covered
