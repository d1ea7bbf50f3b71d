use Rattle.script.proofs.LineLaws.{one_reading}
use Rattle.script.proofs.law.one_reading.Goals as goal

pub returns : goal.returns
returns c = one_reading
