use Rattle.json_lines.proofs.Splits.{split_on_is}
use Rattle.json_lines.proofs.parting.split_on.Goals as goal

pub returns : goal.returns
returns c = split_on_is c.args.mark.now c.args.text.now c.split_once.result c.requires c.split_once.ensures.cases
