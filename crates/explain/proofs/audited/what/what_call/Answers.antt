use Rattle.std.proofs.Common.{◌∙◌}
use Rattle.explain.proofs.audited.what.what_call.Goals as goal

pub returns-clause-none : goal.returns-clause-none
returns-clause-none c = c.call_on.ensures.none c.args.word.now (c.as_str.ensures.value ∙ c.in_ok-line.ensures)
