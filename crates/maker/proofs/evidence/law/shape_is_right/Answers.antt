use Rattle.certify.proofs.ShapeLaws.{right}
use Rattle.maker.proofs.evidence.law.shape_is_right.Goals as goal

pub returns : goal.returns
returns c = right
