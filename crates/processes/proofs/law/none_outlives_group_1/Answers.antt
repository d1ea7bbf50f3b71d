use Rattle.processes.proofs.GroupLaws.{none_outlives_group_1}
use Rattle.processes.proofs.law.none_outlives_group_1.Goals as goal

pub returns : goal.returns
returns c = none_outlives_group_1
