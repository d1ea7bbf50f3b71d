use Rattle.std.proofs.Common.{◌≡◌, ℕ, eqb, true, false, not, arith, refl}
use Rattle.std.proofs.lemmas.Bool.Decides.{nat_tests}
use Rattle.cert_check.proofs.judging.Agreement.says_at.Goals as goal

same : (a b : ℕ) → false ≡ not (eqb a b) → a ≡ b
same a b h = grind (arith, nat_tests)

pub returns-then-rule-nr : goal.returns-then-rule-nr
returns-then-rule-nr g c = λ t. let e : false ≡ true = t in cc

pub returns-then-ne : goal.returns-then-ne
returns-then-ne g c = λ t. let e : false ≡ true = t in cc

pub returns-then-not-is_left : goal.returns-then-not-is_left
returns-then-not-is_left g c = λ t. let e : false ≡ true = t in cc

pub returns : goal.returns
returns g c = λ t. record {
  left = c.if-not-is_left.ensures.0 refl;
  is_yes = c.is_yes.ensures t;
  word = same c.args.rule.now.word c.args.self.now.word c.if-ne.ensures;
}
