use Rattle.processes.proofs.Numbers.{numbers_ascend}
use Rattle.processes.proofs.law.numbers_ascend.Goals as goal

pub returns : goal.returns
returns c = numbers_ascend
