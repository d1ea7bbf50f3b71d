use Rattle.std.proofs.Common.{◌≡◌, true, false, refl}
use Rattle.cert_check.proofs.TestLaws.{only}
use Rattle.cert_check.proofs.conditions.only_has_bits.Goals as goal

pub returns-then-not-has_bits : goal.returns-then-not-has_bits
returns-then-not-has_bits g c =
    (λ t. let e : false ≡ true = t in cc, λ h. let e : false ≡ true = c.if-not-has_bits.ensures.1 h.0 in cc)

pub returns : goal.returns
returns g c = only c.lacks_bits.result _ _ (c.if-not-has_bits.ensures.0 refl) c.lacks_bits.ensures
