use Rattle.std.proofs.Common.{refl}
use Rattle.cert_check.proofs.judging.Agreement.agrees.Goals as goal

pub returns : goal.returns
returns g c = (
  λ t. record { foreign = c.if-not-foreign_agrees.ensures.0 refl; machines = c.all_agree.ensures.0 t },
  λ h. c.all_agree.ensures.1 h.machines,
)
