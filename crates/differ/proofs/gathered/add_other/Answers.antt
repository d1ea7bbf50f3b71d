use Rattle.differ.proofs.GatheredLaws.{answered_covers}
use Rattle.differ.proofs.gathered.add_other.Goals as goal

pub returns-clause-covered : goal.returns-clause-covered
returns-clause-covered c = answered_covers c.args.first.now c.args.second.now c.add_in.new.told _ _ _ c.in_ok-add_in.ensures.answered
