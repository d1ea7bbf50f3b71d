use Rattle.std.proofs.Common.{◌≡◌, true, false, refl}
use Rattle.cert_check.proofs.TestLaws.{only}
use Rattle.cert_check.proofs.conditions.only_lacks_bits.Goals as goal

pub returns-then-not-lacks_bits : goal.returns-then-not-lacks_bits
returns-then-not-lacks_bits g c =
    (λ t. let e : false ≡ true = t in cc, λ h. let e : false ≡ true = c.if-not-lacks_bits.ensures.1 h.0 in cc)

pub returns : goal.returns
returns g c = only c.has_bits.result _ _ (c.if-not-lacks_bits.ensures.0 refl) c.has_bits.ensures
