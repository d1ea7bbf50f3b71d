use Rattle.std.proofs.Common.{subst}
use Rattle.std.specs.Prelude.{IfSome, Option}
use Rattle.cert_check.specs.declared.checked.Checked.{Checked}
use Rattle.maker.specs.Exported.{IsCheckedOf}
use Rattle.maker.proofs.checked_bundle.checked_for.Goals as goal

pub returns-in-Ok-Some-clause-ok : goal.returns-in-Ok-Some-clause-ok
returns-in-Ok-Some-clause-ok c = λ native bundle means.
    subst (λ (o : Option Checked). IfSome o (IsCheckedOf native bundle)) c.in-Ok-Some.field-0-is
    (c.in-Ok-Some.ensures.ok native bundle means)
