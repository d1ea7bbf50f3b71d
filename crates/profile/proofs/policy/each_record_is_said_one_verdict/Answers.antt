use Rattle.profile.proofs.SaidLaws as law
use Rattle.profile.proofs.policy.each_record_is_said_one_verdict.Goals as goal

pub returns : goal.returns
returns c = law.each_record_is_said_one_verdict
