use Rattle.lifecycle.proofs.StayLaws.{loads_tell_filters}
use Rattle.lifecycle.proofs.law.loads_tell_filters.Goals as goal

pub returns : goal.returns
returns c = loads_tell_filters
