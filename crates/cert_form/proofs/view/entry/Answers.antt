use Rattle.std.proofs.Common.{arith}
use Rattle.cert_form.proofs.view.entry.Goals as goal

pub read_claim-requires-clause-there : goal.read_claim-requires-clause-there
read_claim-requires-clause-there c = omega (arith, c.requires.head.entries c.requires.form, c.requires.within)
