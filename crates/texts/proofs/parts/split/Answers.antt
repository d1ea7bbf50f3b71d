use Rattle.texts.proofs.Splits.{split_is}
use Rattle.texts.proofs.parts.split.Goals as goal

pub returns : goal.returns
returns c = split_is c.args.separator c.args.text.now c.split_once.result c.split_once.ensures.cases c.requires
