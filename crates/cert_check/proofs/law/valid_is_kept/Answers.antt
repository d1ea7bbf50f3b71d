use Rattle.cert_check.proofs.ValidLaws.{kept}
use Rattle.cert_check.proofs.law.valid_is_kept.Goals as goal

pub returns : goal.returns
returns c = kept
