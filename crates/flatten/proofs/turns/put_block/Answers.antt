use Rattle.flatten.proofs.SizeLaws.{never_long}
use Rattle.flatten.proofs.turns.put_block.Goals as goal

pub returns-in_err-push-clause-short : goal.returns-in_err-push-clause-short
returns-in_err-push-clause-short c = never_long c.from_residual.result c.from_residual.ensures.1

pub returns-in_err-push-2-clause-short : goal.returns-in_err-push-2-clause-short
returns-in_err-push-2-clause-short c = never_long c.from_residual-in_err-push-2.result c.from_residual-in_err-push-2.ensures.1
