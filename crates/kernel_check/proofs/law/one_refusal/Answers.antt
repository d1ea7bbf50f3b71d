use Rattle.kernel_check.proofs.RefusalLaws.{one}
use Rattle.kernel_check.proofs.law.one_refusal.Goals as goal

pub returns : goal.returns
returns c = one
