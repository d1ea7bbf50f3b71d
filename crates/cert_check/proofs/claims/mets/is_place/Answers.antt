use Rattle.std.proofs.Common.{◌≡◌, ℕ, true, false, ap}
use Rattle.std.proofs.lemmas.Bool.{eqb-true, eq-eqb}
use Rattle.cert_check.proofs.MetsLaws.{same_place}
use Rattle.cert_check.proofs.claims.mets.is_place.Goals as goal

pub returns-then-place-rule : goal.returns-then-place-rule
returns-then-place-rule c = (
  λ t. absurd (let e : false ≡ true = t in cc),
  λ same. absurd (c.if-place-rule.true (ap (λ (p : ℕ × ℕ). p.0) same)),
)

pub returns : goal.returns
returns c = (
  λ t. same_place c.args.place (c.args.rule, c.args.own) c.if-place-rule.false (eqb-true c.args.place.1 c.args.own t),
  λ same. eq-eqb c.args.place.1 c.args.own (ap (λ (p : ℕ × ℕ). p.1) same),
)
