use Rattle.cert_form.proofs.SpellingLaws.{none_faulty}
use Rattle.cert_form.proofs.law.certificates_have_no_fault.Goals as goal

pub returns : goal.returns
returns c = none_faulty
