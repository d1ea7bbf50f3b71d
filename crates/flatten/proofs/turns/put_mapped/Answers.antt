use Rattle.flatten.proofs.SizeLaws.{never_long}
use Rattle.flatten.proofs.turns.put_mapped.Goals as goal

pub returns-in_err-push-clause-short : goal.returns-in_err-push-clause-short
returns-in_err-push-clause-short c = never_long c.from_residual.result c.from_residual.ensures.1
