use Rattle.byte_order.proofs.SameLaws.{read_same, written_same}
use Rattle.byte_order.proofs.law.filters_mean_the_same.Goals as goal

pub returns-clause-read : goal.returns-clause-read
returns-clause-read c = read_same

pub returns-clause-written : goal.returns-clause-written
returns-clause-written c = written_same
