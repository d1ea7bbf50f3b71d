use Rattle.show.proofs.Following.{allowed}
use Rattle.show.proofs.answered.answered_calls_are_allowed.Goals as goal

pub returns : goal.returns
returns c = allowed
