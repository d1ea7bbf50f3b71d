use Rattle.call_tables.proofs.InverseLaws.{table_of-inverse}
use Rattle.call_tables.proofs.look_ups.look_ups_are_inverse.Goals as goal

pub returns : goal.returns
returns c = table_of-inverse c.args.arch
