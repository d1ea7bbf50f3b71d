use Rattle.script.proofs.LineLaws.{one_command}
use Rattle.script.proofs.law.one_command.Goals as goal

pub returns : goal.returns
returns c = one_command
