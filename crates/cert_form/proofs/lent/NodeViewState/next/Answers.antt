use Rattle.cert_form.proofs.ReadLaws.{none_left}
use Rattle.cert_form.proofs.lent.NodeViewState.next.Goals as goal

pub returns-then-at-eq0-clause-more : goal.returns-then-at-eq0-clause-more
returns-then-at-eq0-clause-more c = rw c.if-at-eq0.true (none_left c.args.self.now.bytes.now c.args.self.now.at)
