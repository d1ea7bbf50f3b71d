use Rattle.kernel_check.specs.Lent.{accepted_insns}
use Rattle.cert_check.specs.Checked.{profile_of, program_of}
use Rattle.cert_check.proofs.CheckLaws.{right_of}
use Rattle.cert_check.proofs.checked.Checked.program.Goals as goal

pub returns-clause-accepted : goal.returns-clause-accepted
unfolding program_of accepted_insns
returns-clause-accepted c = c.args.self.now.program.accepted

pub returns-clause-right : goal.returns-clause-right
unfolding profile_of program_of accepted_insns
returns-clause-right c =
    right_of (profile_of c.args.self.now) (program_of c.args.self.now) c.rules.ensures.is_profile.clear c.args.self.now.program.accepted
    c.args.self.now.right
