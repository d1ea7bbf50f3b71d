use Rattle.cert_check.proofs.StatedRecords.{stated_settled}
use Rattle.cert_check.proofs.law.stated_is_settled.Goals as goal

pub returns : goal.returns
returns c = stated_settled
