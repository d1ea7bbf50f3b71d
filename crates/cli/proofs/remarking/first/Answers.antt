use Rattle.cli.proofs.PartLaws.{first_is}
use Rattle.cli.proofs.remarking.first.Goals as goal

pub returns : goal.returns
returns c = first_is c.args.words.now c.args.count c.min.result c.min.ensures
