use Rattle.std.proofs.Common.{arith}
use Rattle.cert_form.specs.Views.{certificate_of}
use Rattle.cert_form.proofs.ReadLaws.{no_claims}
use Rattle.cert_form.proofs.lent.NodeView.next_claim.Goals as goal

pub returns-then-read_long-eq1 : goal.returns-then-read_long-eq1
unfolding certificate_of
returns-then-read_long-eq1 c =
    no_claims c.args.self.now.bytes.now c.args.at (omega (arith, c.read_long.ensures, c.if-read_long-eq1.true))
