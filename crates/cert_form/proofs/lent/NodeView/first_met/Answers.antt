use Rattle.std.proofs.Common.{sym, ◌∙◌, arith}
use Rattle.cert_form.specs.Views.{mets_from, says}
use Rattle.cert_form.proofs.ReadLaws.{none_met, no_mets}
use Rattle.cert_form.proofs.lent.NodeView.first_met.Goals as goal

pub returns-then-read_long-ne4 : goal.returns-then-read_long-ne4
unfolding says mets_from
returns-then-read_long-ne4 c =
    let bytes = c.args.self.now.bytes.now in
    no_mets bytes 0 (λ four. c.if-read_long-ne4.true (omega (arith, c.read_long.ensures, four)))
    ∙ sym (none_met bytes c.args.self.now.at (λ four. c.if-read_long-ne4.true (omega (arith, c.read_long.ensures, four))))
