use Rattle.explain.proofs.AnswerLaws.{may_not_never}
use Rattle.explain.proofs.audited.answers.what_may_not_never_does.Goals as goal

pub returns : goal.returns
returns c = may_not_never
