use Rattle.cert_form.proofs.SpellingLaws.{one_spelling}
use Rattle.cert_form.proofs.law.one_spelling.Goals as goal

pub returns : goal.returns
returns c = one_spelling
