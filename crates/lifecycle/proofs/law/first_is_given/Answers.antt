use Rattle.lifecycle.proofs.GivenLaws.{first_is_given}
use Rattle.lifecycle.proofs.law.first_is_given.Goals as goal

pub returns : goal.returns
returns c = first_is_given
