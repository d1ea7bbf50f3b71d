use Rattle.explain.proofs.AskedLaws.{of_bytes}
use Rattle.explain.proofs.asked.spelled_in.Goals as goal

pub returns-in-len2-clause-none : goal.returns-in-len2-clause-none
returns-in-len2-clause-none c = λ none r is. c.spelled.ensures.none none r (of_bytes r c.args.arguments.now is)
