use Rattle.kernel_check.proofs.RunLaws.{runs}
use Rattle.kernel_check.proofs.law.accepted_programs_give_verdicts.Goals as goal

pub returns : goal.returns
returns c = runs
