use Rattle.processes.proofs.AttachedLaws.{accepts_exactly}
use Rattle.processes.proofs.law.attached_programs_are_checked.Goals as goal

pub returns : goal.returns
returns c = accepts_exactly
