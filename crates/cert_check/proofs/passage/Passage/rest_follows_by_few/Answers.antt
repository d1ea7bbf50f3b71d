use Rattle.cert_check.proofs.MetsLaws.{made_clear}
use Rattle.cert_check.proofs.passage.Passage.rest_follows_by_few.Goals as goal

pub rest_follows_by-requires : goal.rest_follows_by-requires
rest_follows_by-requires g c = made_clear 3072
