use Rattle.std.proofs.Common.{◌≡◌, true, false, inr}
use Rattle.cert_check.proofs.TestLaws.{so}
use Rattle.cert_check.proofs.judging.Agreement.is_open.Goals as goal

pub returns : goal.returns
returns g c = record {
  left = λ _ has. let e : false ≡ true = c.if-has.ensures.1 has in cc;
  passed = λ shut rule stands. inr (c.agrees_at.ensures (so c.agrees_at.result shut) rule stands);
}
