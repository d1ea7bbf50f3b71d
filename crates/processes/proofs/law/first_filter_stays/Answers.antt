use Rattle.processes.proofs.Laws.{first_filter_stays}
use Rattle.processes.proofs.law.first_filter_stays.Goals as goal

pub returns : goal.returns
returns c = first_filter_stays
