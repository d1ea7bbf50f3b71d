use Rattle.std.proofs.Common.{refl, subst}
use Rattle.std.specs.Prelude.{◌↔◌, IfOk, IsTrue, true}
use Rattle.machines.specs.declared.arch.Family.{Family}
use Rattle.maker.specs.Finding.{IsLightIn}
use Rattle.maker.proofs.check.is_light.Goals as goal

pub returns-in-Chosen : goal.returns-in-Chosen
returns-in-Chosen c =
    subst (λ (f : Family). IsTrue true ↔ IsLightIn f c.args.profile.now c.args.cert.now) c.in-Chosen.ensures (λ t. tt, λ h. refl)

pub returns-in-Whole : goal.returns-in-Whole
returns-in-Whole c =
    subst (λ (f : Family). IfOk c.is_within.result (λ light. IsTrue light ↔ IsLightIn f c.args.profile.now c.args.cert.now)) c.in-Whole.ensures
    c.is_within.ensures.within
