use Rattle.std.proofs.Common.{refl}
use Rattle.cert_check.proofs.passage.Origin.entail_is_kept.Goals as goal

pub returns : goal.returns
returns c = (λ t. (c.if-not-all_carry.ensures.0 refl, c.dead_is_dead.ensures.0 t), λ h. c.dead_is_dead.ensures.1 h.1)
