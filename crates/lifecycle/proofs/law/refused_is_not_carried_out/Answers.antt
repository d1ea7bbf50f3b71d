use Rattle.lifecycle.proofs.FilterLaws.{refused_is_not_carried_out}
use Rattle.lifecycle.proofs.law.refused_is_not_carried_out.Goals as goal

pub returns : goal.returns
returns c = refused_is_not_carried_out
