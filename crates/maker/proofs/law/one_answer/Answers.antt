use Rattle.maker.proofs.AnswerLaws as laws
use Rattle.maker.proofs.law.one_answer.Goals as goal

pub returns : goal.returns
returns c = laws.one_answer c.one_refusal.ensures
