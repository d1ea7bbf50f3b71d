use Rattle.lifecycle.proofs.Runs.{replies_are_steps}
use Rattle.lifecycle.proofs.law.replies_are_steps.Goals as goal

pub returns : goal.returns
returns c = replies_are_steps
