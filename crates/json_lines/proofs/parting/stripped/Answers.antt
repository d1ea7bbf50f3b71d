use Rattle.json_lines.proofs.Splits.{stripped_is}
use Rattle.json_lines.proofs.parting.stripped.Goals as goal

pub returns : goal.returns
returns c = stripped_is c.args.front.now c.args.text.now c.strip_prefix.result c.strip_prefix.ensures.cases
