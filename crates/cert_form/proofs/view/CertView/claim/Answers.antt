use Rattle.std.proofs.Common.{sym, ap, ◌∙◌}
use Rattle.std.specs.Prelude.{Some}
use Rattle.cert_form.specs.Views.{bytes_of}
use Rattle.cert_form.proofs.NumberLaws.{claim_at_number, counted}
use Rattle.cert_form.proofs.view.CertView.claim.Goals as goal

pub entry-requires-clause-form : goal.entry-requires-clause-form
unfolding bytes_of
entry-requires-clause-form c = (counted c.args.self.now.bytes.now c.args.i c.requires).0

pub entry-requires-clause-within : goal.entry-requires-clause-within
unfolding bytes_of
entry-requires-clause-within c = (counted c.args.self.now.bytes.now c.args.i c.requires).1

pub returns : goal.returns
unfolding bytes_of
returns c =
    let bytes = c.args.self.now.bytes.now in
    let its = counted bytes c.args.i c.requires in
    claim_at_number bytes c.args.i its.0 its.1 ∙ ap Some (sym c.entry.ensures)
