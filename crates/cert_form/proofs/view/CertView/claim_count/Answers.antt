use Rattle.std.proofs.Common.{sym, ap, ◌∙◌, length, arith}
use Rattle.cert_form.specs.Views.{bytes_of}
use Rattle.cert_form.proofs.NumberLaws.{length-claims_in, no_entries}
use Rattle.cert_form.proofs.view.CertView.claim_count.Goals as goal

pub returns-then-read_long-eq1 : goal.returns-then-read_long-eq1
unfolding bytes_of
returns-then-read_long-eq1 c =
    sym (ap length (no_entries c.args.self.now.bytes.now (omega (arith, c.read_long.ensures, c.if-read_long-eq1.true))))

pub returns : goal.returns
unfolding bytes_of
returns c =
    c.read_long-2.ensures
    ∙ sym (length-claims_in c.args.self.now.bytes.now (λ one. c.if-read_long-eq1.false (omega (arith, c.read_long.ensures, one))))
