use Rattle.lifecycle.proofs.Isolation.{isolation}
use Rattle.lifecycle.proofs.law.containers_are_isolated.Goals as goal

pub returns : goal.returns
returns c = isolation
