use Rattle.processes.proofs.GroupLaws.{groups_stay_led}
use Rattle.processes.proofs.law.groups_stay_led.Goals as goal

pub returns : goal.returns
returns c = groups_stay_led
