use Rattle.profile.proofs.OneBuilt as law
use Rattle.profile.proofs.policy.building_is_one.Goals as goal

pub returns : goal.returns
returns c = law.building_is_one
