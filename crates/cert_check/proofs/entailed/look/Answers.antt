use Rattle.std.proofs.Common.{◌≡◌, true, false, refl, inl}
use Rattle.cert_check.proofs.entailed.look.Goals as goal

pub returns-in-Some : goal.returns-in-Some
returns-in-Some g c = (inl c.in-Some.ensures.0, c.in-Some.ensures.1)

pub returns-then-entails : goal.returns-then-entails
returns-then-entails g c = (c.if-entails.ensures.0 refl, c.requires)

pub returns : goal.returns
returns g c = λ h. let e : false ≡ true = c.if-entails.ensures.1 h in cc
