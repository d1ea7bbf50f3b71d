use Rattle.lifecycle.proofs.FilterLaws.{first_filter_is_oldest}
use Rattle.lifecycle.proofs.law.first_filter_is_oldest.Goals as goal

pub returns : goal.returns
returns c = first_filter_is_oldest
