use Rattle.std.proofs.Common.{◌≡◌, ◌∙◌, true, false, refl, sym, inl, inr}
use Rattle.cert_check.proofs.judging.Agreement.is_asked.Goals as goal

pub returns-then-not-is_open : goal.returns-then-not-is_open
returns-then-not-is_open g c = record {
  left = λ t. absurd (let e : false ≡ true = t in cc);
  passed = λ _ left. elim (c.if-not-is_open.ensures.passed refl c.args.rule.now c.requires.stands) [
    | inl is ↦ absurd (left.not_out is)
    | inr agrees ↦ inr agrees
  ];
}

pub returns : goal.returns
returns g c = record {
  left = λ t. record { not_out = c.if-not-is_open.ensures.left refl; is_for = c.is_for.ensures.0 t };
  passed = λ e left. absurd (let untrue : false ≡ true = sym e ∙ c.is_for.ensures.1 left.is_for in cc);
}
