use Rattle.std.proofs.Common.{subst}
use Rattle.std.specs.String.{string_bytes}
use Rattle.maker.specs.Certified.{IsEvidenceFor}
use Rattle.recover.proofs.RecoveredLaws.{recovered_by}
use Rattle.recover.proofs.recovered.handed_out.Goals as goal

pub returns-in-Certificate-clause-recovered : goal.returns-in-Certificate-clause-recovered
returns-in-Certificate-clause-recovered c = λ native filter is.
    recovered_by native (string_bytes c.args.bundle) filter c.in-Certificate._certificate.items
    (subst (IsEvidenceFor native (string_bytes c.args.bundle) filter) c.in-Certificate.is is)

pub returns-in-Refuting-clause-reason : goal.returns-in-Refuting-clause-reason
returns-in-Refuting-clause-reason c = λ native filter is.
    (string_bytes c.args.bundle, subst (IsEvidenceFor native (string_bytes c.args.bundle) filter) c.in-Refuting.is is)

pub returns-in-Refuting-clause-draft : goal.returns-in-Refuting-clause-draft
returns-in-Refuting-clause-draft c = λ native filter is.
    subst (IsEvidenceFor native (string_bytes c.args.bundle) filter) c.in-Refuting.is is
