use Rattle.json_lines.proofs.Kept.{groups_kept, text_again}
use Rattle.json_lines.proofs.law.answers_are_kept.Goals as goal

pub returns-clause-lines : goal.returns-clause-lines
returns-clause-lines c = groups_kept

pub returns-clause-text : goal.returns-clause-text
returns-clause-text c = text_again
