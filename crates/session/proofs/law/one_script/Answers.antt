use Rattle.session.proofs.OneLaws.{one_script}
use Rattle.session.proofs.law.one_script.Goals as goal

pub returns : goal.returns
returns c = one_script c.one_command.ensures
