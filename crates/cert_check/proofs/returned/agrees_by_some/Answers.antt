use Rattle.cert_check.proofs.MetsLaws.{made_clear}
use Rattle.cert_check.proofs.returned.agrees_by_some.Goals as goal

pub agrees_by-requires-clause-table : goal.agrees_by-requires-clause-table
agrees_by-requires-clause-table c = made_clear 12288
