use Rattle.cert_check.proofs.Right.{right}
use Rattle.cert_check.proofs.law.valid_is_right.Goals as goal

pub returns : goal.returns
returns c = right
