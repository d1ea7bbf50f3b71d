use Rattle.std.proofs.Common.{refl}
use Rattle.cert_check.proofs.entailed.dead_is_dead.Goals as goal

pub returns-in-Step : goal.returns-in-Step
returns-in-Step c = (λ t dead. cc, λ h. refl)

pub returns-in-Split : goal.returns-in-Split
returns-in-Split c = (λ t dead. cc, λ h. refl)

pub returns-in-Return : goal.returns-in-Return
returns-in-Return c = (λ t dead. cc, λ h. refl)
