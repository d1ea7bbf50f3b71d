use Rattle.json_lines.proofs.OneLine.{group_clear}
use Rattle.json_lines.proofs.Read.{group_read}
use Rattle.json_lines.proofs.law.objects_are_read.Goals as goal

pub returns-clause-one_line : goal.returns-clause-one_line
returns-clause-one_line c = group_clear

pub returns-clause-read : goal.returns-clause-read
returns-clause-read c = group_read
