use Rattle.certify.proofs.TellingLaws.{steady_telling}
use Rattle.certify.proofs.law.steady_is_telling.Goals as goal

pub returns : goal.returns
returns c = steady_telling
