use Rattle.lifecycle.proofs.StayLaws.{old_filters_stay}
use Rattle.lifecycle.proofs.law.old_filters_stay.Goals as goal

pub returns : goal.returns
returns c = old_filters_stay
