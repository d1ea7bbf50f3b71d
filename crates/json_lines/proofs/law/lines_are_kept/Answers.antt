use Rattle.json_lines.proofs.Kept.{line_kept}
use Rattle.json_lines.proofs.law.lines_are_kept.Goals as goal

pub returns : goal.returns
returns c = line_kept
